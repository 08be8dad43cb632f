-- What an instruction has behind its first immediate.
use Rattle.std.specs.Prelude.{ℕ, ◌+◌, if◌then◌else◌}
use Rattle.apf_coding.specs.declared.instruction.Op.{Op}
use Rattle.apf_coding.specs.Instruction.{has_second, is_counted}

-- the number of bytes there, where this many are counted
abbrev pub tail_size : Op → ℕ → ℕ → ℕ → ℕ
tail_size op reg width count = (if has_second op reg then width else 0) + (if is_counted op then width + count else 0)
