-- Sums of the memories that hold counters: 128 bytes, of which each four are a big-endian word.
use Rattle.std.specs.Prelude.{◌≡◌, ℕ, ◌*◌, ◌/◌, ◌%◌, ◌^◌, ◌<◌, List, sum_by}
use Rattle.apf_base.specs.Limits.{memory_size}
use Rattle.data_counters.specs.Memory.{word_at}

-- each of the 32 words of a memory is the sum of that word of all these memories, modulo 2 ^ 32
pub record IsSumOf (memories : List (List ℕ)) (memory : List ℕ) : Type 0 where
  pub words : (k : ℕ) → k < memory_size / 4
      → word_at (4 * k) memory ≡ sum_by (word_at (4 * k)) memories % 2 ^ 32
