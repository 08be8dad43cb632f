-- Numbers read at a place of a program.
use Rattle.std.proofs.Common.{◌≡◌, ℕ, ◌+◌, ◌*◌, ◌^◌, ◌<◌, ◌≤◌, ltb, true, false, List, length, take, drop, Some, None, refl, subst, arith, ◌⊎◌, inl, inr}
use Rattle.std.proofs.lemmas.Bool.{lt-ltb, le-ltb, cases_lt}
use Rattle.std.proofs.lemmas.List.{length-drop, length-take, drop-drop}
use Rattle.std.specs.Int.{w8, w16, w32, cast_signed, cast_unsigned}
use Rattle.apf_coding.specs.Words.{number, AreBytes}
use Rattle.apf_coding.specs.Reading.{number_at}
use Rattle.apf_coding.proofs.Numbers.{AreBytes-drop, AreBytes-take, number_below}
use Rattle.apf_interp.specs.Reads.{signed_of}

-- a number whose bytes are all there
pub number_found : (program : List ℕ) (at w : ℕ) → at + w ≤ length program → number_at w (drop at program) ≡ Some (number (take w (drop at program)), drop (at + w) program)
unfolding number_at
number_found program at w le =
    let long : ltb (length (drop at program)) w ≡ false = le-ltb _ _ (omega (arith, length-drop at program)) in
    rw (long, drop-drop) refl

-- a number that is cut off
pub number_cut : (program : List ℕ) (at w : ℕ) → at ≤ length program → length program < at + w → number_at w (drop at program) ≡ None
unfolding number_at
number_cut program at w inside lt =
    let short : ltb (length (drop at program)) w ≡ true = lt-ltb _ _ (omega (arith, length-drop at program)) in
    rw short refl

-- so many bytes of a program are a number below the power
pub number_fits : (program : List ℕ) (at w : ℕ) → AreBytes program → at + w ≤ length program → number (take w (drop at program)) < 256 ^ w
number_fits program at w fits le =
    let long : length (take w (drop at program)) ≡ w = omega (arith, length-take w (drop at program), length-drop at program) in
    subst (λ (k : ℕ). number (take w (drop at program)) < 256 ^ k) long (number_below (take w (drop at program)) (AreBytes-take w (drop at program) (AreBytes-drop at program fits)))

-- a byte that is taken as a signed number and then as a word
pub sign_8 : (n : ℕ) → n < 256 → cast_unsigned w32 (cast_signed w8 n) ≡ signed_of 1 n
sign_8 n lt =
    elim (cases_lt n 128) [
      | inl a ↦ rw (lt-ltb n 128 a, lt-ltb (2 * n) 256 (omega arith)) refl
      | inr a ↦ rw (le-ltb n 128 a, le-ltb (2 * n) 256 (omega arith)) (omega arith)
    ]

-- the same of two bytes
pub sign_16 : (n : ℕ) → n < 65536 → cast_unsigned w32 (cast_signed w16 n) ≡ signed_of 2 n
sign_16 n lt =
    elim (cases_lt n 32768) [
      | inl a ↦ rw (lt-ltb n 32768 a, lt-ltb (2 * n) 65536 (omega arith)) refl
      | inr a ↦ rw (le-ltb n 32768 a, le-ltb (2 * n) 65536 (omega arith)) (omega arith)
    ]

-- no byte and four bytes are a word as they are
pub sign_same : (w n : ℕ) → (w ≡ 0) ⊎ (w ≡ 4) → n < 256 ^ w → signed_of w n ≡ n
sign_same w n (inl e) lt =
    let none : n < 1 = rw e at lt in
    rw (e, lt-ltb (2 * n) 1 (omega arith)) refl
sign_same w n (inr e) lt =
    rw e (elim (cases_lt (2 * n) 4294967296) [
      | inl a ↦ rw (lt-ltb (2 * n) 4294967296 a) refl
      | inr a ↦ rw (le-ltb (2 * n) 4294967296 a) (omega arith)
    ])
