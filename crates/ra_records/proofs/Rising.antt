-- Ranges that stand one behind the other.
use Rattle.std.proofs.Common.{◌≡◌, ℕ, zero, suc, ◌+◌, ◌-◌, ◌<◌, ◌≤◌, Bool, true, false, cond, List, [], ◌∷◌, ◌++◌, length, drop, get_or, refl, arith, All, eqb, eqb-true, ltb-true, ◌⊎◌, inl, inr}
use Rattle.std.specs.Prelude.{◌||◌, nat_lt}
use Rattle.std.specs.List.{list_all, AllByRecursion}
use Rattle.std.proofs.lemmas.List.Elements.{All-from_recursion}
use Rattle.std.proofs.lemmas.Bool.{and_parts}
use Rattle.ra_records.specs.declared.span.Span.{Span}
use Rattle.ra_records.specs.Masks.{span, stretch, between, IsRising, IsSpanWithin, IsNumber}
use Rattle.ra_records.specs.Advert.{masks, sections_of, is_number, IsSound}

pub rising_end : (from : ℕ) (ms : List Span) (end : ℕ) → IsRising from ms end → from ≤ end
rising_end from [] end h = h
rising_end from (m ∷ ms) end h = let more = rising_end (m.at + m.len) ms end h.1 in omega (arith, h.0)

pub rising_at : (ms : List Span) (i from end : ℕ) → i < length ms → IsRising from (drop i ms) end
    → (from ≤ (get_or ms i (span 0 0)).at) × IsRising ((get_or ms i (span 0 0)).at + (get_or ms i (span 0 0)).len) (drop (i + 1) ms) end
rising_at [] i from end lt h = absurd (omega arith)
rising_at (m ∷ ms) zero from end lt h = h
rising_at (m ∷ ms) (suc i) from end lt h =
    let e : suc i + 1 ≡ suc (i + 1) = omega arith in
    rw e (rising_at ms i from end (omega arith) h)

-- ---- the sections lie within the bytes

stretch_within : (t : Bool) (from to end : ℕ) → nat_lt from to ≡ t → from ≤ to → to ≤ end → AllByRecursion (IsSpanWithin end) (cond t (span from (to - from) ∷ []) [])
stretch_within true from to end e le fits =
    let lt : from < to = ltb-true from to e in
    (record { some = omega arith; within = omega arith }, tt)
stretch_within false from to end e le fits = tt

both : (xs ys : List Span) (end : ℕ) → AllByRecursion (IsSpanWithin end) xs → AllByRecursion (IsSpanWithin end) ys → AllByRecursion (IsSpanWithin end) (xs ++ ys)
both [] ys end h k = k
both (x ∷ xs) ys end h k = (h.0, both xs ys end h.1 k)

pub between_within : (ms : List Span) (from end : ℕ) → IsRising from ms end → AllByRecursion (IsSpanWithin end) (between from ms end)
between_within [] from end h = stretch_within (nat_lt from end) from end end refl h (omega arith)
between_within (m ∷ ms) from end h =
    both (stretch from m.at) (between (m.at + m.len) ms end) end
    (stretch_within (nat_lt from m.at) from m.at end refl h.0 (let more = rising_end (m.at + m.len) ms end h.1 in omega arith))
    (between_within ms (m.at + m.len) end h.1)

pub masks_rise : (bytes : List ℕ) (lifetimes : List Span) → IsSound bytes lifetimes → IsRising 0 (masks lifetimes) (length bytes)
masks_rise bytes lifetimes h = (omega arith, (omega arith, h.rising))

pub sections_within : (bytes : List ℕ) (lifetimes : List Span) → IsSound bytes lifetimes → All (IsSpanWithin (length bytes)) (sections_of bytes lifetimes)
sections_within bytes lifetimes h = All-from_recursion (IsSpanWithin (length bytes)) (sections_of bytes lifetimes) (between_within (masks lifetimes) 0 (length bytes) (masks_rise bytes lifetimes h))

-- ---- the lifetimes are numbers of the bytes

two_or_four : (a b : Bool) (n : ℕ) → eqb n 2 ≡ a → eqb n 4 ≡ b → (a || b) ≡ true → (n ≡ 2) ⊎ (n ≡ 4)
two_or_four true b n e f h = inl (eqb-true n 2 e)
two_or_four false true n e f h = inr (eqb-true n 4 f)
two_or_four false false n e f h = absurd cc

pub numbers : (ms : List Span) (from end : ℕ) → IsRising from ms end → list_all is_number ms ≡ true → AllByRecursion (IsNumber end) ms
numbers [] from end h k = tt
numbers (m ∷ ms) from end h k =
    let parts = and_parts (is_number m) (list_all is_number ms) k in (
      record { within = rising_end (m.at + m.len) ms end h.1; width = two_or_four (eqb m.len 2) (eqb m.len 4) m.len refl refl parts.0 },
      numbers ms (m.at + m.len) end h.1 parts.1,
    )

pub lifetimes_are_numbers : (bytes : List ℕ) (lifetimes : List Span) → IsSound bytes lifetimes → All (IsNumber (length bytes)) lifetimes
lifetimes_are_numbers bytes lifetimes h = All-from_recursion (IsNumber (length bytes)) lifetimes (numbers lifetimes 58 (length bytes) h.rising h.numbers)
