-- An install, without its code: what its program is made from, and what is left out of it for want of room.
use Rattle.std.specs.Prelude.{ℕ, ◌+◌, ◌-◌, nat_le, min, if◌then◌else◌, List, [], ◌∷◌, map, take, drop, Option, Some, None, option_map}
use Rattle.policy_state.specs.declared.basis.Basis.{Basis}
use Rattle.policy_state.specs.declared.basis.Chosen.{Chosen}
use Rattle.policy_state.specs.declared.config.Config.{Config}
use Rattle.policy_state.specs.declared.state.FilterState.{FilterState}
use Rattle.ra_records.specs.Advert.{hold}
use Rattle.ra_records.specs.declared.replies.Held.{Held}
use Rattle.size_fit.specs.Sizes.{base, weight, limit_of}
use Rattle.filter_core.specs.Records.{ids_of}

pub record Installed : Type 0 where
  pub number : ℕ
  pub at : ℕ
  pub basis : Basis
  pub left : List ℕ

-- a record that is chosen at a time, with its hold at that time
abbrev pub chosen_at : ℕ → Held → Chosen
chosen_at now held = record { id = held.id; advert = held.advert; hold = hold held.advert now }

-- how many first records have room in so many bytes. A law says that it is the longest prefix that fits
abbrev pub fitting : ℕ → List Held → ℕ
fitting room [] = 0
fitting room (held ∷ later) = if nat_le (weight held.advert) room then 1 + fitting (room - weight held.advert) later else 0

-- how many of the records fit beside the base
abbrev pub kept : Config → FilterState → List Held → ℕ
kept config state records = fitting (limit_of config - base config state) records

-- the basis with the first n of the records
abbrev pub basis_with : ℕ → ℕ → Config → FilterState → List Held → Basis
basis_with n now config state records = record { config = config; state = state; chosen = map (chosen_at now) (take n records) }

-- The install of a number at a time, of these records: the longest prefix that fits is chosen, and the ids of the others
-- are left.
unfoldable pub install_of : ℕ → ℕ → Config → FilterState → List Held → Installed
install_of number now config state records =
    let n = kept config state records in
    record { number = number; at = now; basis = basis_with n now config state records; left = ids_of (drop n records) }

-- the lesser of a number and one that may be there
abbrev pub lesser : ℕ → Option ℕ → ℕ
lesser n None = n
lesser n (Some m) = min n m

-- the least hold
abbrev pub least_hold : List Chosen → Option ℕ
least_hold [] = None
least_hold (chosen ∷ later) = Some (lesser chosen.hold (least_hold later))

-- when an install ends: its time and the least hold of its chosen records. It doesn't where it has none
abbrev pub end_of : Installed → Option ℕ
end_of install = option_map (λ held. install.at + held) (least_hold install.basis.chosen)
