-- Sums of memories.
use Rattle.std.proofs.Common.{◌≡◌, ℕ, ◌+◌, ◌-◌, ◌*◌, ◌≤◌, List, [], ◌∷◌, ◌++◌, take, replicate, ap, ◌∙◌, arith}
use Rattle.std.specs.Prelude.{slice_range}
use Rattle.std.specs.Int.{w32, from_be_bytes}
use Rattle.std.proofs.lemmas.List.{drop-replicate, take-replicate}
use Rattle.std.proofs.lemmas.List.Sums.{sum_by_push}
use Rattle.apf_base.specs.Limits.{memory_size}
use Rattle.data_counters.specs.Memory.{word_at, AddsWords}
use Rattle.dealt_items.specs.Sums.{IsSumOf}

bytes_of-zeros : (at : ℕ) → at + 4 ≤ memory_size → slice_range {X = ℕ} (replicate memory_size 0) at (at + 4) ≡ replicate 4 0
bytes_of-zeros at le =
    let none : ℕ = 0 in
    let four : at + 4 - at ≡ 4 = omega arith in
    ap (take (at + 4 - at)) (drop-replicate at memory_size none)
    ∙ ap (λ (n : ℕ). take n (replicate (memory_size - at) none)) four
    ∙ take-replicate 4 (memory_size - at) none (omega arith)

word_at-zeros : (at : ℕ) → at + 4 ≤ memory_size → word_at at (replicate memory_size 0) ≡ 0
unfolding word_at
word_at-zeros at le = ap (from_be_bytes w32) (bytes_of-zeros at le)

-- no memories add up to zeros
pub sum-none : IsSumOf [] (replicate memory_size 0)
sum-none = record { words = λ k few. omega (arith, word_at-zeros (4 * k) (omega arith)) }

-- one memory more
pub sum-more : (memories : List (List ℕ)) (memory sum next : List ℕ) → IsSumOf memories sum → AddsWords sum memory next → IsSumOf (memories ++ memory ∷ []) next
sum-more memories memory sum next so_far adds =
    record { words = λ k few. omega (arith, so_far.words k few, adds k few, sum_by_push (word_at (4 * k)) memories memory) }
