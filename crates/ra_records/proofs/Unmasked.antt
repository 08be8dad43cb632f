-- The sections between ranges: each place lies in one section or in one range, and the sections don't touch.
use Rattle.std.proofs.Common.{◌≡◌, ℕ, ◌+◌, ◌-◌, ◌<◌, ◌≤◌, Bool, true, false, cond, List, [], ◌∷◌, ◌++◌, length, Ok, refl, sym, ap, subst, ◌∙◌, arith, All, ltb-false, lt-ltb, le-ltb, le-leb, inl, inr}
use Rattle.std.specs.Prelude.{◌&&◌, nat_lt, nat_le}
use Rattle.std.specs.List.{count_by, AllByRecursion}
use Rattle.std.proofs.lemmas.Bool.{cases_lt, lt-leb}
use Rattle.std.proofs.lemmas.List.Sums.{sum_by-cons, sum_by-append}
use Rattle.std.proofs.lemmas.List.Elements.{All-weaker}
use Rattle.ra_records.specs.declared.span.Span.{Span}
use Rattle.ra_records.specs.Masks.{span, lies_in, stretch, between, IsRising, IsSpanWithin, IsNumber}
use Rattle.ra_records.specs.Tiling.{AreApart}
use Rattle.ra_records.specs.Advert.{Advert, masks, sections, sections_of, advert, IsSound}
use Rattle.ra_records.proofs.Rising.{rising_end, masks_rise, sections_within, numbers}
use Rattle.ra_records.proofs.Walk.{sound}
use Rattle.ra_records.proofs.Matching.{read_from}

-- ---- each place once

-- how many of the ranges a place lies in
abbrev count : ℕ → List Span → ℕ
count i spans = count_by (lies_in i) spans

-- 1 where a place lies behind one place and before another, else 0
abbrev hit : ℕ → ℕ → ℕ → ℕ
hit i from to = cond (nat_le from i && nat_lt i to) 1 0

count-cons : (i : ℕ) (s : Span) (spans : List Span) → count i (s ∷ spans) ≡ hit i s.at (s.at + s.len) + count i spans
count-cons i s spans = sum_by-cons (λ (s : Span). cond (lies_in i s) 1 0) s spans

count-append : (i : ℕ) (xs ys : List Span) → count i (xs ++ ys) ≡ count i xs + count i ys
count-append i xs ys = sum_by-append (λ (s : Span). cond (lies_in i s) 1 0) xs ys

first_only : (a : Bool) → cond (a && true) 1 0 + 0 ≡ cond (a && true) 1 0
first_only true = refl
first_only false = refl

second_only : (b : Bool) → 0 + cond b 1 0 ≡ cond b 1 0
second_only true = refl
second_only false = refl

hit_none : (i from to : ℕ) → to ≤ i → hit i from to ≡ 0
hit_none i from to le = rw (le-ltb i to le) (none (nat_le from i))
  where
    none : (a : Bool) → cond {A = ℕ} (a && false) 1 0 ≡ 0
    none true = refl
    none false = refl

hit_both : (i from middle to : ℕ) → from ≤ middle → middle ≤ to → hit i from middle + hit i middle to ≡ hit i from to
hit_both i from middle to low high = elim (cases_lt i middle) [
  | inl lt ↦
      let before : nat_lt i middle ≡ true = lt-ltb i middle lt in
      let inside : nat_lt i to ≡ true = lt-ltb i to (omega arith) in
      let behind : nat_le middle i ≡ false = lt-leb middle i lt in
      rw (before, inside, behind) (first_only (nat_le from i))
  | inr le ↦
      let before : nat_lt i middle ≡ false = le-ltb i middle le in
      let inside : nat_le from i ≡ true = le-leb from i (omega arith) in
      let behind : nat_le middle i ≡ true = le-leb middle i le in
      rw (before, inside, behind) (second_only (nat_lt i to))
]

count_stretch : (t : Bool) (i from to : ℕ) → nat_lt from to ≡ t → from ≤ to → count i (cond t (span from (to - from) ∷ []) []) ≡ hit i from to
count_stretch true i from to e le =
    let whole : from + (to - from) ≡ to = omega arith in
    count-cons i (span from (to - from)) [] ∙ ap (λ (n : ℕ). hit i from n + 0) whole ∙ omega arith
count_stretch false i from to e le = sym (elim (cases_lt i from) [
  | inl lt ↦ rw (lt-leb from i lt) refl
  | inr above ↦ hit_none i from to (omega (arith, ltb-false from to e))
])

-- the ranges and what stands between them hold each place once
count_all : (i : ℕ) (ms : List Span) (from end : ℕ) → IsRising from ms end → count i (between from ms end) + count i ms ≡ hit i from end
count_all i [] from end h = let one = count_stretch (nat_lt from end) i from end refl h in omega (arith, one)
count_all i (m ∷ ms) from end h =
    let stop : ℕ = m.at + m.len in
    let last : m.at + m.len ≤ end = rising_end (m.at + m.len) ms end h.1 in
    let front = count_stretch (nat_lt from m.at) i from m.at refl h.0 in
    let rest = count_all i ms (m.at + m.len) end h.1 in
    let here = hit_both i m.at (m.at + m.len) end (omega arith) last in
    let whole = hit_both i from m.at end h.0 (omega arith) in
    omega (arith, count-append i (stretch from m.at) (between (m.at + m.len) ms end), count-cons i m ms, front, rest, here, whole)

-- ---- the sections don't touch

apart_more : (from to : ℕ) (spans : List Span) → from ≤ to → AreApart to spans → AreApart from spans
apart_more from to [] le h = tt
apart_more from to (s ∷ spans) le h = (omega (arith, h.0), h.1)

apart_last : (t : Bool) (from to : ℕ) → AreApart from (cond t (span from (to - from) ∷ []) [])
apart_last true from to = (omega arith, tt)
apart_last false from to = tt

apart_front : (t : Bool) (from to next : ℕ) (spans : List Span) → nat_lt from to ≡ t → from ≤ to → to < next → AreApart next spans → AreApart from (cond t (span from (to - from) ∷ []) [] ++ spans)
apart_front true from to next spans e le lt h = (omega arith, apart_more (from + (to - from) + 1) next spans (omega arith) h)
apart_front false from to next spans e le lt h = apart_more from next spans (omega arith) h

between_apart : (ms : List Span) (from end : ℕ) → IsRising from ms end → AllByRecursion (λ m. 0 < m.len) ms → AreApart from (between from ms end)
between_apart [] from end h k = apart_last (nat_lt from end) from end
between_apart (m ∷ ms) from end h k =
    apart_front (nat_lt from m.at) from m.at (m.at + m.len) (between (m.at + m.len) ms end) refl h.0 (omega (arith, k.0))
    (between_apart ms (m.at + m.len) end h.1 k.1)

numbers_some : (end : ℕ) (ms : List Span) → AllByRecursion (IsNumber end) ms → AllByRecursion (λ m. 0 < m.len) ms
numbers_some end [] h = tt
numbers_some end (m ∷ ms) h = (elim h.0.width [ inl two ↦ omega arith | inr four ↦ omega arith ], numbers_some end ms h.1)

masks_some : (bytes : List ℕ) (lifetimes : List Span) → IsSound bytes lifetimes → AllByRecursion (λ m. 0 < m.len) (masks lifetimes)
masks_some bytes lifetimes h = (omega arith, (omega arith, numbers_some (length bytes) lifetimes (numbers lifetimes 58 (length bytes) h.rising h.numbers)))

-- ---- of a record

once_in : (frame : List ℕ) (lifetimes : List Span) (i : ℕ) → IsSound frame lifetimes → count i (sections_of frame lifetimes ++ masks lifetimes) ≡ hit i 0 (length frame)
once_in frame lifetimes i h =
    count-append i (sections_of frame lifetimes) (masks lifetimes) ∙ count_all i (masks lifetimes) 0 (length frame) (masks_rise frame lifetimes h)

pub each-once : (frame : List ℕ) (now : ℕ) (r : Advert) (i : ℕ) → advert frame now ≡ Ok r → i < length frame → count_by (lies_in i) (sections r ++ masks r.lifetimes) ≡ 1
each-once frame now r i e lt =
    let read = read_from frame now r e in
    let inside : nat_lt i (length frame) ≡ true = lt-ltb i (length frame) lt in
    let start : nat_le 0 i ≡ true = le-leb 0 i (omega arith) in
    subst (λ (r : Advert). count i (sections r ++ masks r.lifetimes) ≡ 1) read.2
    (once_in frame read.0 i (sound frame read.0 read.1) ∙ rw (start, inside) refl)

pub past-none : (frame : List ℕ) (now : ℕ) (r : Advert) (i : ℕ) → advert frame now ≡ Ok r → length frame ≤ i → count_by (lies_in i) (sections r ++ masks r.lifetimes) ≡ 0
past-none frame now r i e le =
    let read = read_from frame now r e in
    subst (λ (r : Advert). count i (sections r ++ masks r.lifetimes) ≡ 0) read.2
    (once_in frame read.0 i (sound frame read.0 read.1) ∙ hit_none i 0 (length frame) le)

pub sections-some : (frame : List ℕ) (now : ℕ) (r : Advert) → advert frame now ≡ Ok r → All (λ s. 0 < s.len) (sections r)
sections-some frame now r e =
    let read = read_from frame now r e in
    subst (λ (r : Advert). All (λ s. 0 < s.len) (sections r)) read.2
    (All-weaker (IsSpanWithin (length frame)) (λ s. 0 < s.len) (λ s h. h.some) (sections_of frame read.0) (sections_within frame read.0 (sound frame read.0 read.1)))

pub sections-apart : (frame : List ℕ) (now : ℕ) (r : Advert) → advert frame now ≡ Ok r → AreApart 0 (sections r)
sections-apart frame now r e =
    let read = read_from frame now r e in
    let is = sound frame read.0 read.1 in
    subst (λ (r : Advert). AreApart 0 (sections r)) read.2
    (between_apart (masks read.0) 0 (length frame) (masks_rise frame read.0 is) (masks_some frame read.0 is))
