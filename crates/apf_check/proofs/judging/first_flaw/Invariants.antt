-- The first flaw is that of the instructions from here on.
use Rattle.std.proofs.Common.{◌≤◌, ◌-◌, List, length}
use Rattle.apf_check.specs.Orderly.{Part, Stand}
use Rattle.apf_check.specs.Marks.{is_marked}
use Rattle.apf_check.proofs.Search.{Left}
use Rattle.apf_check.proofs.judging.first_flaw.Given as goal

abbrev pub invariant-loop-instr : goal.invariant-loop-instr
invariant-loop-instr l = record {
  left : (parts : List Part) → Stand l.code 0 parts (length l.code) → Left l.code (is_marked l.marks) parts l.at;
  within : l.at ≤ length l.code;
}

abbrev pub decreases-loop-instr : goal.decreases-loop-instr
decreases-loop-instr l = length l.code - l.at
