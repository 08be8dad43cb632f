-- The records of advertisements that a filter holds, in their order, and what is done to the list of them. After
-- ApfFilter of Android 10.
use Rattle.std.specs.Prelude.{ℕ, nat_lt, nat_le, Bool, List, [], ◌∷◌, ◌++◌, length, map, filter, position, remove, slice_index, Option}
use Rattle.ra_records.specs.Advert.{Advert, same, remaining}
use Rattle.ra_records.specs.declared.replies.Held.{Held}
use Rattle.policy_state.specs.Limits.{records_most}

-- a record isn't expired
abbrev pub is_standing : ℕ → Held → Bool
is_standing now held = nat_lt 0 (remaining held.advert now)

-- the records without those that are expired
abbrev pub standing : ℕ → List Held → List Held
standing now records = filter (is_standing now) records

-- the place of the first record that a frame matches
abbrev pub match_of : List ℕ → List Held → Option ℕ
match_of frame records = position (λ held. same held.advert frame) records

-- the ids of records
abbrev pub ids_of : List Held → List ℕ
ids_of records = map (λ held. held.id) records

-- the record at a place as it is seen now, moved to the front
abbrev pub to_front : ℕ → Advert → List Held → List Held
to_front place seen records = record { id = slice_index (ids_of records) place; advert = seen } ∷ remove records place

-- one more record at the end
abbrev pub with_last : List Held → Held → List Held
with_last records held = records ++ held ∷ []

-- so many records are held at most
abbrev pub is_full : List Held → Bool
is_full records = nat_le records_most (length records)
