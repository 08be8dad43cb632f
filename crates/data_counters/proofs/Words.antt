-- Words of the memory, byte by byte.
use Rattle.std.proofs.Common.{◌≡◌, ℕ, ◌+◌, ◌*◌, ◌/◌, ◌%◌, ◌<◌, ◌≤◌, ◌^◌, List, ◌++◌, length, take, drop, get_or, refl, sym, ap, ◌∙◌, arith, lit<, inl, inr}
use Rattle.std.specs.Prelude.{◌⊎◌, slice_range, All}
use Rattle.std.specs.Int.{w32, from_be_bytes, to_be_bytes}
use Rattle.std.proofs.lemmas.Grind.{common_steps}
use Rattle.std.proofs.lemmas.Bool.{cases_lt}
use Rattle.std.proofs.lemmas.List.{ext_get_or, get_or_past}
use Rattle.std.proofs.lemmas.List.Elements.{All-get_or}
use Rattle.std.proofs.lemmas.Nat.{from_be_bytes-to_be_bytes_4, be_bytes_4}
use Rattle.apf_base.specs.Limits.{memory_size}
use Rattle.data_counters.specs.Memory.{word_at, with_word}

-- ---- bytes

byte_of-word : (m : List ℕ) (at i : ℕ) → i < 4 → get_or (slice_range m at (at + 4)) i 0 ≡ get_or m (at + i) 0
byte_of-word m at i lt = grind (arith, common_steps)

pub byte-before : (at w : ℕ) (m : List ℕ) (k : ℕ) → at + 4 ≤ length m → k < at → get_or (with_word at w m) k 0 ≡ get_or m k 0
unfolding with_word
byte-before at w m k le lt = grind (arith, common_steps)

byte-within : (at w : ℕ) (m : List ℕ) (i : ℕ) → at + 4 ≤ length m → i < 4 → get_or (with_word at w m) (at + i) 0 ≡ get_or (to_be_bytes w32 w) i 0
unfolding with_word
byte-within at w m i le lt = middle (to_be_bytes w32 w) refl
  where
    middle : (bytes : List ℕ) → length bytes ≡ 4 → get_or (take at m ++ bytes ++ drop (at + 4) m) (at + i) 0 ≡ get_or bytes i 0
    middle bytes four = grind (arith, common_steps)

pub byte-behind : (at w : ℕ) (m : List ℕ) (k : ℕ) → at + 4 ≤ length m → at + 4 ≤ k → get_or (with_word at w m) k 0 ≡ get_or m k 0
unfolding with_word
byte-behind at w m k le ge = grind (arith, common_steps)

pub length-with_word : (at w : ℕ) (m : List ℕ) → at + 4 ≤ length m → length (with_word at w m) ≡ length m
unfolding with_word
length-with_word at w m le = grind (arith, common_steps)

-- ---- words

-- words of the same bytes are equal
word_at-same_bytes : (at other : ℕ) (m n : List ℕ) → ((i : ℕ) → i < 4 → get_or m (at + i) 0 ≡ get_or n (other + i) 0) → word_at at m ≡ word_at other n
unfolding word_at
word_at-same_bytes at other m n same =
    let e0 = byte_of-word m at 0 (lit< tt) ∙ same 0 (lit< tt) ∙ sym (byte_of-word n other 0 (lit< tt)) in
    let e1 = byte_of-word m at 1 (lit< tt) ∙ same 1 (lit< tt) ∙ sym (byte_of-word n other 1 (lit< tt)) in
    let e2 = byte_of-word m at 2 (lit< tt) ∙ same 2 (lit< tt) ∙ sym (byte_of-word n other 2 (lit< tt)) in
    let e3 = byte_of-word m at 3 (lit< tt) ∙ same 3 (lit< tt) ∙ sym (byte_of-word n other 3 (lit< tt)) in
    cc

-- the word that was written
pub word_at-with_word : (at w : ℕ) (m : List ℕ) → at + 4 ≤ length m → w < 2 ^ 32 → word_at at (with_word at w m) ≡ w
unfolding word_at
word_at-with_word at w m le lt =
    word_at-same_bytes at 0 (with_word at w m) (to_be_bytes w32 w) (λ i few. let e : i ≡ 0 + i = omega arith in byte-within at w m i le few ∙ ap (λ (k : ℕ). get_or (to_be_bytes w32 w) k 0) e)
    ∙ from_be_bytes-to_be_bytes_4 w lt

-- a word beside the one that was written
pub word_at-beside : (at other w : ℕ) (m : List ℕ) → at + 4 ≤ length m → (other + 4 ≤ at) ⊎ (at + 4 ≤ other) → word_at other (with_word at w m) ≡ word_at other m
word_at-beside at other w m le apart =
    word_at-same_bytes other other (with_word at w m) m (λ i few.
    elim apart [ inl before ↦ byte-before at w m (other + i) le (omega arith) | inr behind ↦ byte-behind at w m (other + i) le (omega arith) ])

-- ---- whole memories

-- the bytes of a word in a memory
bytes_of-word : (m : List ℕ) (k : ℕ) → k < memory_size / 4 → length m ≡ memory_size → ((i : ℕ) → get_or m i 0 < 256) → to_be_bytes w32 (word_at (4 * k) m) ≡ slice_range m (4 * k) (4 * k + 4)
unfolding word_at
bytes_of-word m k few long bytes =
    let word = slice_range m (4 * k) (4 * k + 4) in
    be_bytes_4 word (from_be_bytes w32 word) (grind (arith, common_steps)) (λ i. grind (arith, common_steps)) refl

-- memories of the same words are equal
pub same_words : (m n : List ℕ) → length m ≡ memory_size → length n ≡ memory_size → All (λ b. b < 256) m → All (λ b. b < 256) n → ((k : ℕ) → k < memory_size / 4 → word_at (4 * k) m ≡ word_at (4 * k) n) → m ≡ n
same_words m n long as_long bytes other_bytes same = ext_get_or 0 m n (long ∙ sym as_long) (λ i few.
    let k : ℕ = i / 4 in
    let inside : k < memory_size / 4 = omega arith in
    let place : 4 * k + i % 4 ≡ i = omega arith in
    let words = sym (bytes_of-word m k inside long (each_byte m bytes)) ∙ ap (to_be_bytes w32) (same k inside) ∙ bytes_of-word n k inside as_long (each_byte n other_bytes) in
    ap (λ (j : ℕ). get_or m j 0) (sym place)
    ∙ sym (byte_of-word m (4 * k) (i % 4) (omega arith))
    ∙ ap (λ (bs : List ℕ). get_or bs (i % 4) 0) words
    ∙ byte_of-word n (4 * k) (i % 4) (omega arith)
    ∙ ap (λ (j : ℕ). get_or n j 0) place)
  where
    each_byte : (xs : List ℕ) → All (λ b. b < 256) xs → (j : ℕ) → get_or xs j 0 < 256
    each_byte xs all j = elim (cases_lt j (length xs)) [
      | inl lt ↦ All-get_or (λ b. b < 256) xs j 0 lt all
      | inr past ↦ rw (get_or_past xs j 0 past) (lit< tt)
    ]
