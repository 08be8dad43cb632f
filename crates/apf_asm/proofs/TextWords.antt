-- A word that is read is spelled so, and what is spelled so is read.
use Rattle.std.proofs.Common.{◌≡◌, ℕ, zero, suc, ◌^◌, ◌<◌, ◌≤◌, ◌⊎◌, Bool, true, false, ◌&&◌, cond, eqb, ltb, leb, List, [], ◌∷◌, length, drop, get_or, Option, Some, None, Result, Ok, Err, refl, sym, ap, subst, ◌∙◌, arith, inl, inr}
use Rattle.std.specs.Prelude.{ℤ, pos, negsuc, neg_ℤ, FitsSigned, codes}
use Rattle.std.specs.Int.{w32}
use Rattle.std.specs.Fmt.{decimal, signed_decimal}
use Rattle.std.specs.List.{list_any}
use Rattle.std.specs.Result.{result_ok}
use Rattle.std.specs.Str.{bytes_eq}
use Rattle.std.proofs.lemmas.Bool.{eqb-true, eqb-false, ne_eqb, ltb-true, ltb-false, lt-ltb, le-ltb, leb-true, le-leb}
use Rattle.std.proofs.lemmas.Fmt.{decimal_digit, first_decimal}
use Rattle.hex.specs.declared.error.FromHexError.{FromHexError}
use Rattle.hex.specs.Hex.{decode_of, encode_lower, IsBytes}
use Rattle.hex.proofs.HexLemmas.{decode_of-encode_lower}
use Rattle.apf_coding.specs.Widths.{least_unsigned}
use Rattle.apf_coding.specs.Spelling.{IsWidth}
use Rattle.apf_coding.specs.Reading.{◌>>=◌}
use Rattle.apf_coding.proofs.Fields.{bind_some, some_is}
use Rattle.apf_coding.proofs.Widths.{least, wider}
use Rattle.plain_text.proofs.Words.{equal_words}
use Rattle.apf_asm.specs.declared.item.Target.{Target}
use Rattle.apf_asm.specs.declared.item.Target.TheVariants as targets
use Rattle.apf_asm.specs.TextForms.{register_word, target_word, hex_word, IsTarget}
use Rattle.apf_asm.specs.TextReading.{word_number, word_below, negative, positive, signed_of, register_of, target_of, is_upper, few, bytes_of, hex_of, below, fitting, counted_bytes, some_bytes}
use Rattle.apf_asm.proofs.TextNumbers.{number_of_is, number_of-decimal, word_below_is, word_below-lt}
use Rattle.apf_asm.proofs.TextHex.{decode_of-lower, encode_lower-low}
use Rattle.apf_asm.specs.Items.{bytes_limit}

-- a choice by an equal word, or the rest
pub chosen : {A : Type 0} (a b : List ℕ) (yes : Bool) (x y : Option A) (z : A) → bytes_eq a b ≡ yes → cond yes x y ≡ Some z → ((a ≡ b) × (x ≡ Some z)) ⊎ (y ≡ Some z)
chosen a b true x y z t e = inl (equal_words a b t, e)
chosen a b false x y z t e = inr e

-- ---- registers

pub register_of_is : (word : List ℕ) (reg : ℕ) → register_of word ≡ Some reg → (reg < 2) × (word ≡ register_word reg)
unfolding register_of
register_of_is word reg e = elim (chosen word (codes "r0") (bytes_eq word (codes "r0")) _ _ reg refl e) [
  | inl zero_is ↦ let same : 0 ≡ reg = some_is 0 reg zero_is.1 in subst (λ (r : ℕ). (r < 2) × (word ≡ register_word r)) same (omega arith, zero_is.0)
  | inr other ↦ elim (chosen word (codes "r1") (bytes_eq word (codes "r1")) _ _ reg refl other) [
    | inl one_is ↦ let same : 1 ≡ reg = some_is 1 reg one_is.1 in subst (λ (r : ℕ). (r < 2) × (word ≡ register_word r)) same (omega arith, one_is.0)
    | inr none ↦ absurd cc
  ]
]

pub register_of-word : (reg : ℕ) → reg < 2 → register_of (register_word reg) ≡ Some reg
unfolding register_of
register_of-word zero lt = refl
register_of-word (suc zero) lt = refl
register_of-word (suc (suc n)) lt = absurd (omega arith)

-- ---- numbers below a bound, and of so many bytes

pub below_is : (bound : ℕ) (word : List ℕ) (n : ℕ) → below bound word ≡ Some n → (n < bound) × (word ≡ decimal n)
unfolding below
below_is bound word n e =
    let b = bind_some (word_number word) (word_below bound) n e in
    let small = word_below_is bound b.0 n b.2 in
    (small.0, (number_of_is word b.0 b.1).1 ∙ ap decimal small.1)

pub below-decimal : (bound n : ℕ) → n < bound → n < 2 ^ 32 → below bound (decimal n) ≡ Some n
unfolding below
below-decimal bound n lt small = rw (number_of-decimal n small) (word_below-lt bound n lt)

if_some : {A : Type 0} (b : Bool) (x y : A) → cond b (Some x) None ≡ Some y → (b ≡ true) × (x ≡ y)
if_some true x y e = (refl, some_is x y e)
if_some false x y e = absurd cc

pub narrow : (n w : ℕ) → IsWidth w → n < 256 ^ w → least_unsigned n ≤ w
narrow n w width lt =
    let l = least n in
    elim width [
      | inl p ↦ let small : n < 256 ^ 0 = subst (λ (k : ℕ). n < 256 ^ k) p lt in omega arith
      | inr (inl p) ↦ let small : n < 256 ^ 1 = subst (λ (k : ℕ). n < 256 ^ k) p lt in omega arith
      | inr (inr (inl p)) ↦ let small : n < 256 ^ 2 = subst (λ (k : ℕ). n < 256 ^ k) p lt in omega arith
      | inr (inr (inr p)) ↦ omega arith
    ]

pub fitting_is : (w : ℕ) (word : List ℕ) (n : ℕ) → IsWidth w → fitting w word ≡ Some n → (n < 256 ^ w) × (word ≡ decimal n)
unfolding fitting
fitting_is w word n width e =
    let b = bind_some (word_number word) (λ n. cond (leb (least_unsigned n) w) (Some n) None) n e in
    let number = number_of_is word b.0 b.1 in
    let fits = if_some (leb (least_unsigned b.0) w) b.0 n b.2 in
    let small = wider b.0 w width number.0 (leb-true _ _ fits.0) in
    (subst (λ (k : ℕ). k < 256 ^ w) fits.1 small, number.1 ∙ ap decimal fits.1)

pub fitting-decimal : (w n : ℕ) → IsWidth w → n < 256 ^ w → n < 2 ^ 32 → fitting w (decimal n) ≡ Some n
unfolding fitting
fitting-decimal w n width lt small = rw (number_of-decimal n small, le-leb (least_unsigned n) w (narrow n w width lt)) refl

-- ---- a first byte

-- a choice by the first byte, or the rest
pub first_byte : {A : Type 0} (word : List ℕ) (c : ℕ) (x y : Option A) (z : A) → 0 < c → cond (eqb (get_or word 0 0) c) x y ≡ Some z → ((word ≡ c ∷ drop 1 word) × (x ≡ Some z)) ⊎ (y ≡ Some z)
first_byte [] c x y z lt e = inr (rw (ne_eqb 0 c (λ p. omega arith)) at e)
first_byte (b ∷ rest) c x y z lt e = go (eqb b c) refl e
  where
    go : (yes : Bool) → eqb b c ≡ yes → cond yes x y ≡ Some z → ((b ∷ rest ≡ c ∷ rest) × (x ≡ Some z)) ⊎ (y ≡ Some z)
    go true t e = inl (ap (λ (n : ℕ). n ∷ rest) (eqb-true b c t), e)
    go false t e = inr e

-- ---- signed numbers

negative_cases : (n : ℕ) (z : ℤ) (a b : Bool) → ltb 0 n ≡ a → leb n 2147483648 ≡ b → cond (a && b) (Some (neg_ℤ (pos n))) None ≡ Some z → (m : ℕ) × (n ≡ suc m) × (z ≡ negsuc m) × (m < 2 ^ 31)
negative_cases zero z true b p q e = let lt = ltb-true 0 0 p in absurd (omega arith)
negative_cases (suc m) z true true p q e = (m, refl, sym (some_is (negsuc m) z e), (let le = leb-true (suc m) 2147483648 q in omega arith))
negative_cases (suc m) z true false p q e = absurd cc
negative_cases n z false b p q e = absurd cc

positive_cases : (n : ℕ) (z : ℤ) (a : Bool) → ltb n 2147483648 ≡ a → cond a (Some (pos n)) None ≡ Some z → (z ≡ pos n) × (n < 2 ^ 31)
positive_cases n z true p e = (sym (some_is (pos n) z e), (let lt = ltb-true n 2147483648 p in omega arith))
positive_cases n z false p e = absurd cc

pub signed_of_is : (word : List ℕ) (z : ℤ) → signed_of word ≡ Some z → FitsSigned w32 z × (word ≡ signed_decimal z)
unfolding signed_of
signed_of_is word z e = elim (first_byte word 45 (word_number (drop 1 word) >>= negative) (word_number word >>= positive) z (omega arith) e) [
  | inl minus ↦
      let b = bind_some (word_number (drop 1 word)) negative z minus.1 in
      let n = negative_cases b.0 z (ltb 0 b.0) (leb b.0 2147483648) refl refl b.2 in
      let text = number_of_is (drop 1 word) b.0 b.1 in
      let fits : FitsSigned w32 (negsuc n.0) = record { sfits = n.3 } in
      let spelled : word ≡ 45 ∷ decimal (suc n.0) = minus.0 ∙ ap (λ (t : List ℕ). 45 ∷ t) (text.1 ∙ ap decimal n.1) in
      subst (λ (x : ℤ). FitsSigned w32 x × (word ≡ signed_decimal x)) (sym n.2) (fits, spelled)
  | inr plain ↦
      let b = bind_some (word_number word) positive z plain in
      let n = positive_cases b.0 z (ltb b.0 2147483648) refl b.2 in
      let text = number_of_is word b.0 b.1 in
      let fits : FitsSigned w32 (pos b.0) = record { sfits = n.1 } in
      subst (λ (x : ℤ). FitsSigned w32 x × (word ≡ signed_decimal x)) (sym n.0) (fits, text.1)
]

no_minus : (n : ℕ) → n < 2 ^ 64 → eqb (get_or (decimal n) 0 0) 45 ≡ false
no_minus zero small = ap (λ (t : List ℕ). eqb (get_or t 0 0) 45) (decimal_digit 0 (omega arith))
no_minus (suc n) small = let first = first_decimal (suc n) (omega arith) small in ne_eqb _ _ (λ p. omega arith)

pub signed_of-decimal : (z : ℤ) → FitsSigned w32 z → signed_of (signed_decimal z) ≡ Some z
unfolding signed_of
signed_of-decimal (pos n) fits =
    let small : n < 2 ^ 31 = fits.sfits in
    rw (no_minus n (omega arith), number_of-decimal n (omega arith), lt-ltb n 2147483648 (omega arith)) refl
signed_of-decimal (negsuc m) fits =
    let small : m < 2 ^ 31 = fits.sfits in
    rw (number_of-decimal (suc m) (omega arith), lt-ltb 0 (suc m) (omega arith), le-leb (suc m) 2147483648 (omega arith)) refl

-- ---- targets

pub target_of_is : (word : List ℕ) (to : Target) → target_of word ≡ Some to → IsTarget to × (word ≡ target_word to)
unfolding target_of
target_of_is word to e = elim (chosen word (codes "pass") (bytes_eq word (codes "pass")) _ _ to refl e) [
  | inl pass ↦ subst (λ (t : Target). IsTarget t × (word ≡ target_word t)) (some_is targets.Pass to pass.1) (tt, pass.0)
  | inr other ↦ elim (chosen word (codes "drop") (bytes_eq word (codes "drop")) _ _ to refl other) [
    | inl drops ↦ subst (λ (t : Target). IsTarget t × (word ≡ target_word t)) (some_is targets.Drop to drops.1) (tt, drops.0)
    | inr named ↦ elim (first_byte word 76 _ None to (omega arith) named) [
      | inl label ↦
          let b = bind_some (word_number (drop 1 word)) (λ n. Some (targets.Label n)) to label.1 in
          let text = number_of_is (drop 1 word) b.0 b.1 in
          subst (λ (t : Target). IsTarget t × (word ≡ target_word t)) (some_is (targets.Label b.0) to b.2) (text.0, label.0 ∙ ap (λ (t : List ℕ). 76 ∷ t) text.1)
      | inr none ↦ absurd cc
    ]
  ]
]

pub target_of-word : (to : Target) → IsTarget to → target_of (target_word to) ≡ Some to
unfolding target_of
target_of-word (targets.Label n) small = rw (number_of-decimal n small) refl
target_of-word targets.Pass small = refl
target_of-word targets.Drop small = refl

-- ---- bytes

pub record Hex (word bytes : List ℕ) : Type 0 where
  pub bytes_fit : IsBytes bytes
  pub long : length bytes ≤ bytes_limit
  pub text : word ≡ hex_word bytes

few_cases : (bytes found : List ℕ) (b : Bool) → ltb bytes_limit (length bytes) ≡ b → cond b None (Some bytes) ≡ Some found → (bytes ≡ found) × (length found ≤ bytes_limit)
few_cases bytes found true t e = absurd cc
few_cases bytes found false t e = let same = some_is bytes found e in (same, subst (λ (x : List ℕ). length x ≤ bytes_limit) same (ltb-false bytes_limit (length bytes) t))

decoded : (r : Result (List ℕ) FromHexError) (bytes : List ℕ) → result_ok r ≡ Some bytes → r ≡ Ok bytes
decoded (Ok x) bytes e = ap Ok (some_is x bytes e)
decoded (Err x) bytes e = absurd cc

unless : {A : Type 0} (b : Bool) (x : Option A) (y : A) → cond b None x ≡ Some y → (b ≡ false) × (x ≡ Some y)
unless true x y e = absurd cc
unless false x y e = (refl, e)

bytes_of_is : (digits bytes : List ℕ) → bytes_of digits ≡ Some bytes → IsBytes bytes × (length bytes ≤ bytes_limit) × (digits ≡ encode_lower bytes)
unfolding bytes_of
bytes_of_is digits bytes e =
    let g = unless (list_any is_upper digits) (result_ok (decode_of digits) >>= few) bytes e in
    let b = bind_some (result_ok (decode_of digits)) few bytes g.1 in
    let f = few_cases b.0 bytes (ltb bytes_limit (length b.0)) refl b.2 in
    let text = decode_of-lower digits b.0 (decoded (decode_of digits) b.0 b.1) g.0 in
    (subst IsBytes f.0 text.1, f.1, text.0 ∙ ap encode_lower f.0)

bytes_of-encode_lower : (bytes : List ℕ) → IsBytes bytes → length bytes ≤ bytes_limit → bytes_of (encode_lower bytes) ≡ Some bytes
unfolding bytes_of
bytes_of-encode_lower bytes fits long = rw (encode_lower-low bytes fits, decode_of-encode_lower bytes fits, le-ltb bytes_limit (length bytes) long) refl

pub hex_of_is : (word bytes : List ℕ) → hex_of word ≡ Some bytes → Hex word bytes
unfolding hex_of
hex_of_is word bytes e = elim (first_byte word 120 (bytes_of (drop 1 word)) None bytes (omega arith) e) [
  | inl x ↦
      let b = bytes_of_is (drop 1 word) bytes x.1 in
      record { bytes_fit = b.0; long = b.1; text = x.0 ∙ ap (λ (t : List ℕ). 120 ∷ t) b.2 }
  | inr none ↦ absurd cc
]

pub hex_of-word : (bytes : List ℕ) → IsBytes bytes → length bytes ≤ bytes_limit → hex_of (hex_word bytes) ≡ Some bytes
unfolding hex_of
hex_of-word bytes fits long = bytes_of-encode_lower bytes fits long

pub counted_is : (w : ℕ) (word bytes : List ℕ) → IsWidth w → counted_bytes w word ≡ Some bytes → Hex word bytes × (length bytes < 256 ^ w)
unfolding counted_bytes
counted_is w word bytes width e =
    let b = bind_some (hex_of word) (λ bytes. cond (leb (least_unsigned (length bytes)) w) (Some bytes) None) bytes e in
    let fits = if_some (leb (least_unsigned (length b.0)) w) b.0 bytes b.2 in
    let h = hex_of_is word b.0 b.1 in
    let long = h.long in
    (subst (λ (x : List ℕ). Hex word x) fits.1 h, subst (λ (x : List ℕ). length x < 256 ^ w) fits.1 (wider (length b.0) w width (omega arith) (leb-true _ _ fits.0)))

pub counted-word : (w : ℕ) (bytes : List ℕ) → IsWidth w → IsBytes bytes → length bytes ≤ bytes_limit → length bytes < 256 ^ w → counted_bytes w (hex_word bytes) ≡ Some bytes
unfolding counted_bytes
counted-word w bytes width fits long lt = rw (hex_of-word bytes fits long, le-leb (least_unsigned (length bytes)) w (narrow (length bytes) w width lt)) refl

some_cases : (bytes found : List ℕ) (b : Bool) → eqb (length bytes) 0 ≡ b → cond b None (Some bytes) ≡ Some found → (bytes ≡ found) × (0 < length found)
some_cases bytes found true t e = absurd cc
some_cases bytes found false t e =
    let same = some_is bytes found e in
    let ne = eqb-false (length bytes) 0 t in
    let some : 0 < length bytes = omega (arith, ne) in
    (same, subst (λ (x : List ℕ). 0 < length x) same some)

pub some_bytes_is : (bytes found : List ℕ) → some_bytes bytes ≡ Some found → (bytes ≡ found) × (0 < length found)
some_bytes_is bytes found e = some_cases bytes found (eqb (length bytes) 0) refl e

pub some_bytes-some : (bytes : List ℕ) → 0 < length bytes → some_bytes bytes ≡ Some bytes
some_bytes-some bytes lt = rw (ne_eqb (length bytes) 0 (λ e. omega arith)) refl
