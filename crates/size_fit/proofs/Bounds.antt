-- A record's weight is small: its sections and its lifetimes lie one behind the other in at most 1,514 bytes.
use Rattle.std.proofs.Common.{◌≡◌, ℕ, ◌+◌, ◌-◌, ◌*◌, ◌<◌, ◌≤◌, Bool, true, false, cond, eqb, List, [], ◌∷◌, length, arith, ltb-true, refl}
use Rattle.std.specs.Prelude.{◌||◌, nat_lt}
use Rattle.std.specs.List.{list_all, sum_by}
use Rattle.std.proofs.lemmas.Bool.Decides.{nat_tests}
use Rattle.std.proofs.lemmas.List.Sums.{sum_by-cons, sum_by-append}
use Rattle.std.proofs.lemmas.Bool.{and_parts}
use Rattle.ra_records.specs.declared.span.Span.{Span}
use Rattle.ra_records.specs.Masks.{span, stretch, between, IsRising}
use Rattle.ra_records.specs.Advert.{masks, sections_of, is_number, IsSound}
use Rattle.ra_records.proofs.Rising.{masks_rise}
use Rattle.size_fit.specs.Sizes.{section_weight}

-- a section of n bytes weighs at most 13 * n
stretch_weight : (t : Bool) (from to : ℕ) → nat_lt from to ≡ t → from ≤ to → sum_by section_weight (cond t (span from (to - from) ∷ []) []) + 13 * from ≤ 13 * to
stretch_weight true from to e le =
    let lt : from < to = ltb-true from to e in
    omega (arith, sum_by-cons section_weight (span from (to - from)) [])
stretch_weight false from to e le = omega arith

between_weight : (ms : List Span) (from end : ℕ) → IsRising from ms end → sum_by section_weight (between from ms end) + 13 * from ≤ 13 * end
between_weight [] from end h = stretch_weight (nat_lt from end) from end refl h
between_weight (m ∷ ms) from end h =
    omega (
      arith,
      sum_by-append section_weight (stretch from m.at) (between (m.at + m.len) ms end),
      stretch_weight (nat_lt from m.at) from m.at refl h.0,
      between_weight ms (m.at + m.len) end h.1,
    )

pub sections_are_light : (bytes : List ℕ) (lifetimes ss : List Span) → IsSound bytes lifetimes → ss ≡ sections_of bytes lifetimes → sum_by section_weight ss ≤ 19682
sections_are_light bytes lifetimes ss h e =
    rw e (omega (arith, between_weight (masks lifetimes) 0 (length bytes) (masks_rise bytes lifetimes h), h.short))

two_or_four : (a b : Bool) (n : ℕ) → eqb n 2 ≡ a → eqb n 4 ≡ b → (a || b) ≡ true → 2 ≤ n
two_or_four true b n e f h = grind (arith, nat_tests)
two_or_four false true n e f h = grind (arith, nat_tests)
two_or_four false false n e f h = absurd cc

count_of : (ms : List Span) (from end : ℕ) → IsRising from ms end → list_all is_number ms ≡ true → 2 * length ms + from ≤ end
count_of [] from end h k = omega arith
count_of (m ∷ ms) from end h k =
    let parts = and_parts (is_number m) (list_all is_number ms) k in
    omega (arith, h.0, two_or_four (eqb m.len 2) (eqb m.len 4) m.len refl refl parts.0, count_of ms (m.at + m.len) end h.1 parts.1)

pub lifetimes_are_few : (bytes : List ℕ) (lifetimes ls : List Span) → IsSound bytes lifetimes → ls ≡ lifetimes → length ls ≤ 757
lifetimes_are_few bytes lifetimes ls h e = rw e (omega (arith, count_of lifetimes 58 (length bytes) h.rising h.numbers, h.short))
