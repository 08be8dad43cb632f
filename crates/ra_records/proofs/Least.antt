-- The least of the numbers in ranges.
use Rattle.std.proofs.Common.{◌≡◌, ℕ, ◌+◌, ◌≤◌, ◌<◌, ◌^◌, ◌-◌, List, [], ◌∷◌, length, drop, map, None, Some, Ok, Bool, cond, min, refl, ap, sym, subst, ◌∙◌, lit≤, le-ltb, All, arith, length-take, inl, inr}
use Rattle.std.specs.Prelude.{slice_range}
use Rattle.std.specs.List.{AllByRecursion, Contains}
use Rattle.std.proofs.Math.Nat.{min-le_left, min-le_right, min-eq_left, min-eq_right, pow-suc, pow-le-pow_right}
use Rattle.std.proofs.lemmas.Bool.{cases_lt}
use Rattle.std.proofs.lemmas.Nat.{mul-add-lt}
use Rattle.std.proofs.lemmas.List.Elements.{All-from_recursion, All-head, All-tail, All-take, All-drop, Contains-append_right}
use Rattle.frame_views.specs.Fields.{bytes_value, field}
use Rattle.ra_records.specs.declared.span.Span.{Span}
use Rattle.ra_records.specs.Masks.{IsNumber}
use Rattle.ra_records.specs.Advert.{Advert, number_in, least_in, least, advert}
use Rattle.ra_records.proofs.Walk.{sound}
use Rattle.ra_records.proofs.Rising.{numbers}
use Rattle.ra_records.proofs.Matching.{read_from}
use Rattle.ra_records.proofs.Tiles.{options_of_lifetimes}

-- the number of a range that lies in the frame
pub number_seen : (frame : List ℕ) (s : Span) → s.at + s.len ≤ length frame → field frame s.at s.len ≡ Some (number_in frame s)
unfolding field
number_seen frame s le = ap (λ (b : Bool). cond b None (Some (bytes_value (slice_range frame s.at (s.at + s.len))))) (le-ltb (length frame) (s.at + s.len) le)

-- no number of four bytes is greater than the one that stands for none
pub least_bound : (frame : List ℕ) (spans : List Span) → least_in frame spans ≤ 2 ^ 32 - 1
least_bound frame [] = lit≤ tt
least_bound frame (s ∷ spans) =
    let more = least_bound frame spans in
    omega (arith, min-le_right (number_in frame s) (least_in frame spans))

pub least_first : (frame : List ℕ) (spans : List Span) → min (2 ^ 32 - 1) (least_in frame spans) ≡ least_in frame spans
least_first frame spans = min-eq_right (least_bound frame spans)

pub least_last : (frame : List ℕ) (rest : List Span) (n : ℕ) → n ≤ 2 ^ 32 - 1 → rest ≡ [] → n ≡ min n (least_in frame rest)
least_last frame rest n le e = sym (min-eq_left le) ∙ ap (λ (xs : List Span). min n (least_in frame xs)) (sym e)

bounds : (frame : List ℕ) (spans : List Span) (n : ℕ) → n ≤ least_in frame spans → AllByRecursion (λ s. n ≤ number_in frame s) spans
bounds frame [] n le = tt
bounds frame (s ∷ spans) n le = (
  omega (arith, le, min-le_left (number_in frame s) (least_in frame spans)),
  bounds frame spans n (omega (arith, le, min-le_right (number_in frame s) (least_in frame spans))),
)

pub least-below : (r : Advert) → All (λ s. least r ≤ number_in r.bytes s) r.lifetimes
least-below r = All-from_recursion (λ s. least r ≤ number_in r.bytes s) r.lifetimes (bounds r.bytes r.lifetimes (least r) (omega arith))

-- ---- it is one of the numbers

-- bytes spell a number that fits them
value_fits : (bytes : List ℕ) → All (λ b. b < 256) bytes → bytes_value bytes < 256 ^ length bytes
value_fits [] h = lit≤ tt
value_fits (b ∷ bytes) h =
    let front : b < 256 = All-head (λ b. b < 256) b bytes h in
    let rest : bytes_value bytes < 256 ^ length bytes = value_fits bytes (All-tail (λ b. b < 256) b bytes h) in
    omega (arith, mul-add-lt b (256 ^ length bytes) (bytes_value bytes) 256 front rest, pow-suc 256 (length bytes))

-- four bytes at most spell a number of four bytes
number_fits : (frame : List ℕ) (s : Span) → All (λ b. b < 256) frame → s.len ≤ 4 → number_in frame s < 2 ^ 32
number_fits frame s bytes le =
    let part : List ℕ = slice_range frame s.at (s.at + s.len) in
    let fits = value_fits part (All-take (λ b. b < 256) (s.at + s.len - s.at) (drop s.at frame) (All-drop (λ b. b < 256) s.at frame bytes)) in
    let few : length part ≤ 4 = omega (arith, length-take (s.at + s.len - s.at) (drop s.at frame)) in
    let most : 256 ^ length part ≤ 256 ^ 4 = pow-le-pow_right (lit≤ tt) few in
    let same : 256 ^ 4 ≡ 2 ^ 32 = refl in
    omega (arith, fits, most)

Contains-head : (x : ℕ) (xs : List ℕ) → Contains (x ∷ xs) x
Contains-head x xs = (0, omega arith, refl)

Contains-tail : (x y : ℕ) (xs : List ℕ) → Contains xs x → Contains (y ∷ xs) x
Contains-tail x y xs h = Contains-append_right (y ∷ []) xs x h

one_of : (frame : List ℕ) (s : Span) (spans : List Span) → AllByRecursion (λ s. number_in frame s < 2 ^ 32) (s ∷ spans) → Contains (map (number_in frame) (s ∷ spans)) (least_in frame (s ∷ spans))
one_of frame s [] h =
    subst (Contains (number_in frame s ∷ [])) (sym (min-eq_left (omega (arith, h.0)))) (Contains-head (number_in frame s) [])
one_of frame s (t ∷ spans) h = elim (cases_lt (least_in frame (t ∷ spans)) (number_in frame s)) [
  | inl lt ↦
      subst (Contains (map (number_in frame) (s ∷ t ∷ spans))) (sym (min-eq_right (omega arith)))
      (Contains-tail (least_in frame (t ∷ spans)) (number_in frame s) (map (number_in frame) (t ∷ spans)) (one_of frame t spans h.1))
  | inr le ↦
      subst (Contains (map (number_in frame) (s ∷ t ∷ spans))) (sym (min-eq_left le))
      (Contains-head (number_in frame s) (map (number_in frame) (t ∷ spans)))
]

all_fit : (frame : List ℕ) (spans : List Span) → All (λ b. b < 256) frame → AllByRecursion (IsNumber (length frame)) spans → AllByRecursion (λ s. number_in frame s < 2 ^ 32) spans
all_fit frame [] bytes h = tt
all_fit frame (s ∷ spans) bytes h =
    let few : s.len ≤ 4 = elim h.0.width [ inl two ↦ omega arith | inr four ↦ omega arith ] in
    (number_fits frame s bytes few, all_fit frame spans bytes h.1)

pub least-one : (frame : List ℕ) (now : ℕ) (r : Advert) → All (λ b. b < 256) frame → advert frame now ≡ Ok r → Contains (map (number_in r.bytes) r.lifetimes) (least r)
least-one frame now r bytes e =
    let read = read_from frame now r e in
    let is = sound frame read.0 read.1 in
    subst (λ (r : Advert). Contains (map (number_in r.bytes) r.lifetimes) (least r)) read.2
    (some read.0 (let front = ap length (options_of_lifetimes frame read.0 read.1).2 in omega (arith, front)) (all_fit frame read.0 bytes (numbers read.0 58 (length frame) is.rising is.numbers)))
  where
    some : (lifetimes : List Span) → 0 < length lifetimes → AllByRecursion (λ s. number_in frame s < 2 ^ 32) lifetimes → Contains (map (number_in frame) lifetimes) (least_in frame lifetimes)
    some [] lt h = absurd (omega arith)
    some (s ∷ spans) lt h = one_of frame s spans h
