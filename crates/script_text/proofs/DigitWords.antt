-- Words of lower-case digits are the texts of their bytes.
use Rattle.std.proofs.Common.{◌≡◌, ℕ, zero, suc, ◌+◌, ◌*◌, ◌/◌, ◌%◌, ◌^◌, ◌<◌, Bool, true, false, cond, eqb, List, [], ◌∷◌, ◌++◌, length, slice_index, Option, Some, None, refl, sym, ap, subst, ◌∙◌, arith}
use Rattle.std.specs.Int.{w16, to_be_bytes, from_be_bytes}
use Rattle.std.proofs.lemmas.Bool.{agree_below_at, eqb-true, eq-eqb}
use Rattle.std.proofs.lemmas.Bool.Decides.{nat_tests}
use Rattle.std.proofs.lemmas.Nat.{be_bytes_2, from_be_bytes-to_be_bytes_2}
use Rattle.plain_text.proofs.Digits.{told_of, told_at}
use Rattle.hex.specs.Hex.{encode_with, encode_lower, lower_digits, IsBytes}
use Rattle.script_text.specs.Words.{mac_word, ethertype_word}
use Rattle.script_text.specs.Spelling.{SpellsMac, SpellsEthertype}
use Rattle.script_text.specs.WordReading.{digit_of, byte_of, pairs_of, mac_of, ethertype_of}
use Rattle.script_text.proofs.Exactness.{Exact, bind_some, if_some}

-- ---- a digit

abbrev told : ℕ → Bool
told c = told_of c (digit_of c)

small : (c v : ℕ) → digit_of c ≡ Some v → c < 103
unfolding digit_of
small c v e = grind (arith, nat_tests)

digit_is : (c v : ℕ) → digit_of c ≡ Some v → (slice_index lower_digits v ≡ c) × (v < 16)
unfolding told_of digit_of
digit_is c v e =
    let all : told c ≡ true = agree_below_at told (λ _. true) 103 c refl (small c v e) in
    told_at c v (digit_of c) e all

-- the digit of each value is read as it
is_some_of : ℕ → Option ℕ → Bool
is_some_of v None = false
is_some_of v (Some w) = eqb w v

is_some_at : (v : ℕ) (o : Option ℕ) → is_some_of v o ≡ true → o ≡ Some v
unfolding is_some_of
is_some_at v None t = absurd cc
is_some_at v (Some w) t = ap Some (eqb-true w v t)

digit_of-digit : (v : ℕ) → v < 16 → digit_of (slice_index lower_digits v) ≡ Some v
unfolding is_some_of digit_of
digit_of-digit v lt = is_some_at v (digit_of (slice_index lower_digits v)) (agree_below_at (λ x. is_some_of x (digit_of (slice_index lower_digits x))) (λ _. true) 16 v refl lt)

-- ---- a byte

halves : (h l b : ℕ) → h < 16 → l < 16 → 16 * h + l ≡ b → (b / 16 ≡ h) × (b % 16 ≡ l) × (b < 256)
halves h l b hs ls e = (omega arith, omega arith, omega arith)

pub byte_is : (high low b : ℕ) → byte_of high low ≡ Some b → (b < 256) × (high ∷ low ∷ [] ≡ encode_lower (b ∷ []))
unfolding byte_of encode_with
byte_is high low b e =
    let p = bind_some (digit_of high) _ b e in
    let q = bind_some (digit_of low) _ b p.2 in
    let first = digit_is high p.0 p.1 in
    let second = digit_is low q.0 q.1 in
    let sum : 16 * p.0 + q.0 ≡ b = let some = q.2 in cc in
    let h = halves p.0 q.0 b first.1 second.1 sum in
    (h.2, rw (h.0, h.1, first.0, second.0) refl)

pub byte_of-digits : (b : ℕ) → b < 256 → byte_of (slice_index lower_digits (b / 16)) (slice_index lower_digits (b % 16)) ≡ Some b
unfolding byte_of
byte_of-digits b lt =
    let sum : 16 * (b / 16) + b % 16 ≡ b = omega arith in
    rw (digit_of-digit (b / 16) (omega arith), digit_of-digit (b % 16) (omega arith), sum) refl

pub bytes-cons : (b : ℕ) (bs : List ℕ) → b < 256 → IsBytes bs → IsBytes (b ∷ bs)
bytes-cons b bs lt fits zero = lt
bytes-cons b bs lt fits (suc k) = fits k

no_bytes : IsBytes []
no_bytes k = omega arith

-- ---- a MAC

record Pairs (word bytes : List ℕ) : Type 0 where
  fit : IsBytes bytes
  some : 0 < length bytes
  spelled : word ≡ mac_word bytes
  size : length word + 1 ≡ 3 * length bytes

pairs-one : (high low b : ℕ) → (b < 256) × (high ∷ low ∷ [] ≡ encode_lower (b ∷ [])) → Pairs (high ∷ low ∷ []) (b ∷ [])
pairs-one high low b h = record { fit = bytes-cons b [] h.0 no_bytes; some = omega arith; spelled = h.1; size = omega arith }

pairs-cons : (high low colon b : ℕ) (rest bytes : List ℕ) → (b < 256) × (high ∷ low ∷ [] ≡ encode_lower (b ∷ [])) → colon ≡ 58 → Pairs rest bytes → Pairs (high ∷ low ∷ colon ∷ rest) (b ∷ bytes)
pairs-cons high low colon b rest [] h c p = absurd (let some = p.some in omega arith)
pairs-cons high low colon b rest (x ∷ bytes) h c p = record {
  fit = bytes-cons b (x ∷ bytes) h.0 p.fit;
  some = omega arith;
  spelled = ap (λ (t : List ℕ). t ++ (colon ∷ rest)) h.1 ∙ rw (c, ← p.spelled) refl;
  size = let size = p.size in omega arith;
}

pairs_is : (word bytes : List ℕ) → pairs_of word ≡ Some bytes → Pairs word bytes
pairs_is [] bytes e = absurd cc
pairs_is (high ∷ []) bytes e = absurd cc
pairs_is (high ∷ low ∷ []) bytes e =
    let p = bind_some (byte_of high low) _ bytes e in
    let same : p.0 ∷ [] ≡ bytes = let some = p.2 in cc in
    subst (Pairs (high ∷ low ∷ [])) same (pairs-one high low p.0 (byte_is high low p.0 p.1))
pairs_is (high ∷ low ∷ colon ∷ rest) bytes e =
    let p = bind_some (byte_of high low) _ bytes e in
    let q = bind_some (cond (eqb colon 58) (pairs_of rest) None) _ bytes p.2 in
    let g = if_some (eqb colon 58) (pairs_of rest) q.0 q.1 in
    let same : p.0 ∷ q.0 ≡ bytes = let some = q.2 in cc in
    subst (Pairs (high ∷ low ∷ colon ∷ rest)) same (pairs-cons high low colon p.0 rest q.0 (byte_is high low p.0 p.1) (eqb-true _ _ g.0) (pairs_is rest q.0 g.1))

pairs_of-mac_word : (bytes : List ℕ) → 0 < length bytes → IsBytes bytes → (pairs_of (mac_word bytes) ≡ Some bytes) × (length (mac_word bytes) + 1 ≡ 3 * length bytes)
unfolding encode_with
pairs_of-mac_word [] some fits = absurd (omega arith)
pairs_of-mac_word (b ∷ []) some fits = (rw (byte_of-digits b (fits 0)) refl, omega arith)
pairs_of-mac_word (b ∷ c ∷ bytes) some fits =
    let more = pairs_of-mac_word (c ∷ bytes) (omega arith) (λ k. fits (suc k)) in
    let size = more.1 in
    (rw (byte_of-digits b (fits 0), more.0) refl, omega arith)

pub mac_exact : (word : List ℕ) → Exact (mac_of word) (SpellsMac word)
unfolding mac_of
mac_exact word = record {
  found = λ mac e.
      let g = if_some (eqb (length word) 17) (pairs_of word) mac e in
      let long = eqb-true (length word) 17 g.0 in
      let p = pairs_is word mac g.1 in
      let size = p.size in
      record { six = omega arith; fit = p.fit; spelled = p.spelled };
  only = λ mac s.
      let six = s.six in
      let p = pairs_of-mac_word mac (omega arith) s.fit in
      let size = p.1 in
      let long : eqb (length (mac_word mac)) 17 ≡ true = eq-eqb _ _ (omega arith) in
      rw (s.spelled, long) p.0;
}

-- ---- an ethertype

both_bytes : (a b : ℕ) → a < 256 → b < 256 → IsBytes (a ∷ b ∷ [])
both_bytes a b x y = bytes-cons a (b ∷ []) x (bytes-cons b [] y no_bytes)

join_texts : (x y : ℕ) → encode_lower (x ∷ []) ++ encode_lower (y ∷ []) ≡ encode_lower (x ∷ y ∷ [])
unfolding encode_with
join_texts x y = refl

ethertype_found : (word : List ℕ) (e : ℕ) → ethertype_of word ≡ Some e → SpellsEthertype word e
unfolding ethertype_of
ethertype_found [] e h = absurd cc
ethertype_found (a ∷ []) e h = absurd cc
ethertype_found (a ∷ b ∷ []) e h = absurd cc
ethertype_found (a ∷ b ∷ c ∷ []) e h = absurd cc
ethertype_found (a ∷ b ∷ c ∷ d ∷ []) e h =
    let p = bind_some (byte_of a b) _ e h in
    let q = bind_some (byte_of c d) _ e p.2 in
    let first = byte_is a b p.0 p.1 in
    let second = byte_is c d q.0 q.1 in
    let value : from_be_bytes w16 (p.0 ∷ q.0 ∷ []) ≡ e = let some = q.2 in cc in
    let bytes : to_be_bytes w16 e ≡ p.0 ∷ q.0 ∷ [] = be_bytes_2 (p.0 ∷ q.0 ∷ []) e refl (both_bytes p.0 q.0 first.0 second.0) (sym value) in
    record {
      fits = let high = first.0 in let low = second.0 in omega (arith, value);
      spelled = ap (λ (t : List ℕ). t ++ (c ∷ d ∷ [])) first.1 ∙ ap (λ (t : List ℕ). encode_lower (p.0 ∷ []) ++ t) second.1 ∙ join_texts p.0 q.0 ∙ ap encode_lower (sym bytes);
    }
ethertype_found (a ∷ b ∷ c ∷ d ∷ x ∷ rest) e h = absurd cc

ethertype_of-word : (e : ℕ) → e < 2 ^ 16 → ethertype_of (ethertype_word e) ≡ Some e
unfolding ethertype_of encode_with
ethertype_of-word e fits =
    rw (byte_of-digits (slice_index (to_be_bytes w16 e) 0) (omega arith), byte_of-digits (slice_index (to_be_bytes w16 e) 1) (omega arith)) (ap Some (from_be_bytes-to_be_bytes_2 e fits))

pub ethertype_exact : (word : List ℕ) → Exact (ethertype_of word) (SpellsEthertype word)
ethertype_exact word = record {
  found = λ e h. ethertype_found word e h;
  only = λ e s. ap ethertype_of s.spelled ∙ ethertype_of-word e s.fits;
}
