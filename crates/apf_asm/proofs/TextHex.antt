-- Lower-case digits are the text of the bytes that they decode to.
use Rattle.std.proofs.Common.{◌≡◌, ℕ, suc, ◌+◌, ◌*◌, ◌/◌, ◌%◌, ◌<◌, Bool, true, false, ◌||◌, List, [], ◌∷◌, length, slice_index, Option, Some, None, Result, Ok, Err, refl, sym, ap, ◌∙◌, arith}
use Rattle.std.specs.List.{list_any}
use Rattle.std.specs.Result.{result_unwrap_or}
use Rattle.std.proofs.lemmas.Bool.{agree_below_at, or_parts}
use Rattle.std.proofs.lemmas.Bool.Decides.{nat_tests}
use Rattle.plain_text.proofs.Digits.{told_of, told_at}
use Rattle.hex.specs.declared.error.FromHexError.{FromHexError}
use Rattle.hex.specs.Hex.{◌>>=◌, hex_digit_value, digit_or_error, value_at, pair_value, decode_pairs, decode_of, encode_with, encode_lower, lower_digits, IsBytes}
use Rattle.hex.proofs.HexLemmas.{decode_of-ok, decode_of-even}
use Rattle.apf_asm.specs.TextReading.{is_upper}

bind_ok : {A B : Type 0} (r : Result A FromHexError) (f : A → Result B FromHexError) (y : B)
    → (r >>= f) ≡ Ok y → (x : A) × (r ≡ Ok x) × (f x ≡ Ok y)
bind_ok (Ok x) f y h = (x, refl, h)
bind_ok (Err e) f y h = absurd cc

-- ---- a digit

abbrev told : ℕ → Bool
told c = is_upper c || told_of c (hex_digit_value c)

small : (c v : ℕ) → hex_digit_value c ≡ Some v → c < 103
small c v e = grind (arith, nat_tests)

not_upper : (a b : Bool) → (a || b) ≡ true → a ≡ false → b ≡ true
not_upper true b e f = absurd cc
not_upper false b e f = e

digit : (c v : ℕ) → hex_digit_value c ≡ Some v → is_upper c ≡ false → (slice_index lower_digits v ≡ c) × (v < 16)
unfolding told_of
digit c v e lower =
    let all : told c ≡ true = agree_below_at told (λ _. true) 103 c refl (small c v e) in
    told_at c v (hex_digit_value c) e (not_upper (is_upper c) (told_of c (hex_digit_value c)) all lower)

read_digit : (c i v : ℕ) (o : Option ℕ) → digit_or_error c i o ≡ Ok v → o ≡ Some v
read_digit c i v (Some w) e = ap Some cc
read_digit c i v None e = absurd cc

-- ---- pairs

halves : (h l b : ℕ) → h < 16 → l < 16 → h * 16 + l ≡ b → (b / 16 ≡ h) × (b % 16 ≡ l) × (b < 256)
halves h l b hs ls e = (omega arith, omega arith, omega arith)

pair_text : (a b v h l : ℕ) → slice_index lower_digits h ≡ a → slice_index lower_digits l ≡ b → v / 16 ≡ h → v % 16 ≡ l → (rest tail : List ℕ) → tail ≡ rest
    → a ∷ b ∷ tail ≡ slice_index lower_digits (v / 16) ∷ slice_index lower_digits (v % 16) ∷ rest
pair_text a b v h l ea eb eh el rest tail e = rw (eh, el) cc

pairs_text : (i : ℕ) (s bytes : List ℕ) → decode_pairs i s ≡ Ok bytes → list_any is_upper s ≡ false → s ≡ encode_lower bytes
unfolding decode_pairs encode_with
pairs_text i [] bytes e lower = let none : [] ≡ bytes = ap (λ (r : Result (List ℕ) FromHexError). result_unwrap_or r []) e in ap encode_lower none
pairs_text i (a ∷ []) bytes e lower = absurd cc
pairs_text i (a ∷ b ∷ rest) bytes e lower =
    let p0 = bind_ok (pair_value a b i) _ bytes e in
    let p1 = bind_ok (value_at a i) _ p0.0 p0.1 in
    let p2 = bind_ok (value_at b (i + 1)) _ p0.0 p1.2 in
    let p3 = bind_ok (decode_pairs (i + 2) rest) _ bytes p0.2 in
    let first = or_parts (is_upper a) (is_upper b || list_any is_upper rest) lower in
    let second = or_parts (is_upper b) (list_any is_upper rest) first.1 in
    let more = pairs_text (i + 2) rest p3.0 p3.1 second.1 in
    let high = digit a p1.0 (read_digit a i p1.0 (hex_digit_value a) p1.1) first.0 in
    let low = digit b p2.0 (read_digit b (i + 1) p2.0 (hex_digit_value b) p2.1) second.0 in
    let byte : p1.0 * 16 + p2.0 ≡ p0.0 = ap (λ (r : Result ℕ FromHexError). result_unwrap_or r 0) p2.2 in
    let h = halves p1.0 p2.0 p0.0 high.1 low.1 byte in
    let whole : p0.0 ∷ p3.0 ≡ bytes = ap (λ (r : Result (List ℕ) FromHexError). result_unwrap_or r []) p3.2 in
    pair_text a b p0.0 p1.0 p2.0 high.0 low.0 h.0 h.1 (encode_lower p3.0) rest more ∙ ap encode_lower whole

-- ---- the whole

pub decode_of-lower : (digits bytes : List ℕ) → decode_of digits ≡ Ok bytes → list_any is_upper digits ≡ false → (digits ≡ encode_lower bytes) × IsBytes bytes × (length digits ≡ 2 * length bytes)
decode_of-lower digits bytes e lower =
    let ok = decode_of-ok digits bytes e in
    (pairs_text 0 digits bytes (sym (decode_of-even digits ok.0) ∙ e) lower, ok.3, ok.2)

table_low : (v : ℕ) → v < 16 → is_upper (slice_index lower_digits v) ≡ false
table_low v lt = agree_below_at (λ x. is_upper (slice_index lower_digits x)) (λ _. false) 16 v refl lt

pub encode_lower-low : (bytes : List ℕ) → IsBytes bytes → list_any is_upper (encode_lower bytes) ≡ false
unfolding encode_with
encode_lower-low [] fits = refl
encode_lower-low (b ∷ rest) fits =
    let byte : b < 256 = fits 0 in
    rw (table_low (b / 16) (omega arith), table_low (b % 16) (omega arith)) (encode_lower-low rest (λ k. fits (suc k)))
