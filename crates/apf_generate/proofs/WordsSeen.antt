-- What the machine loads and stores in the memory are words of the counters.
use Rattle.std.proofs.Common.{◌≡◌, ℕ, ◌+◌, ◌/◌, ◌%◌, ◌≤◌, List, [], ◌∷◌, ◌++◌, length, take, drop, ap, arith}
use Rattle.std.specs.Prelude.{slice_range}
use Rattle.std.specs.Int.{w32, from_be_bytes, to_be_bytes}
use Rattle.std.proofs.lemmas.Grind.{common_steps}
use Rattle.apf_coding.specs.Words.{number, big_endian}
use Rattle.data_counters.specs.Memory.{word_at, with_word}

number_of-four : (bytes : List ℕ) → length bytes ≡ 4 → number bytes ≡ from_be_bytes w32 bytes
number_of-four (a ∷ b ∷ c ∷ d ∷ []) four = omega arith
number_of-four [] four = absurd (omega arith)
number_of-four (a ∷ []) four = absurd (omega arith)
number_of-four (a ∷ b ∷ []) four = absurd (omega arith)
number_of-four (a ∷ b ∷ c ∷ []) four = absurd (omega arith)
number_of-four (a ∷ b ∷ c ∷ d ∷ e ∷ more) four = absurd (omega arith)

pub word_seen : (at : ℕ) (memory : List ℕ) → at + 4 ≤ length memory → number (slice_range memory at (at + 4)) ≡ word_at at memory
unfolding word_at
word_seen at memory le = number_of-four (slice_range memory at (at + 4)) (grind (arith, common_steps))

four_bytes : (w : ℕ) → big_endian 4 w ≡ to_be_bytes w32 w
four_bytes w =
    let last : w / 1 % 256 ≡ w % 256 = omega arith in
    ap (λ (b : ℕ). w / 16777216 % 256 ∷ w / 65536 % 256 ∷ w / 256 % 256 ∷ b ∷ []) last

pub store_seen : (at w : ℕ) (memory : List ℕ) → take at memory ++ big_endian 4 w ++ drop (at + 4) memory ≡ with_word at w memory
unfolding with_word
store_seen at w memory = ap (λ (bytes : List ℕ). take at memory ++ bytes ++ drop (at + 4) memory) (four_bytes w)
