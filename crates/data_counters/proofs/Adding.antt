-- A sum of memories as far as the loop has come.
use Rattle.std.proofs.Common.{◌≡◌, ℕ, ◌+◌, ◌*◌, ◌/◌, ◌%◌, ◌^◌, ◌<◌, ◌≤◌, List, length, ap, ◌∙◌, arith, inl, inr, below_more}
use Rattle.apf_base.specs.Limits.{memory_size}
use Rattle.data_counters.specs.Memory.{word_at, with_word}
use Rattle.data_counters.proofs.Words.{word_at-with_word, word_at-beside, length-with_word}

-- the first k words are sums, and the others are as they were
pub record AddsFirst (k : ℕ) (old from now : List ℕ) : Type 0 where
  pub long : length now ≡ memory_size
  pub added : (j : ℕ) → j < k → word_at (4 * j) now ≡ (word_at (4 * j) old + word_at (4 * j) from) % 2 ^ 32
  pub left : (j : ℕ) → k ≤ j → j < memory_size / 4 → word_at (4 * j) now ≡ word_at (4 * j) old

module _ (k : ℕ) (old from now : List ℕ) where
  abbrev sum : ℕ
  sum = (word_at (4 * k) now + word_at (4 * k) from) % 2 ^ 32

  pub adds_one_more : k < memory_size / 4 → AddsFirst k old from now → AddsFirst (k + 1) old from (with_word (4 * k) sum now)
  adds_one_more lt so_far =
      let long : length now ≡ memory_size = so_far.long in
      let le : 4 * k + 4 ≤ length now = omega arith in
      record {
        long = length-with_word (4 * k) sum now le ∙ long;
        added = below_more (λ (j : ℕ). word_at (4 * j) (with_word (4 * k) sum now) ≡ (word_at (4 * j) old + word_at (4 * j) from) % 2 ^ 32) k
            (λ j less. word_at-beside (4 * k) (4 * j) sum now le (inl (omega arith)) ∙ so_far.added j less)
            (word_at-with_word (4 * k) sum now le (omega arith) ∙ ap (λ (w : ℕ). (w + word_at (4 * k) from) % 2 ^ 32) (so_far.left k (omega arith) lt));
        left = λ j more few. word_at-beside (4 * k) (4 * j) sum now le (inr (omega arith)) ∙ so_far.left j (omega arith) few;
      }
