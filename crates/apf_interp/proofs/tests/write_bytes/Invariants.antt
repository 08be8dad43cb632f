use Rattle.std.proofs.Common.{◌≤◌}
use Rattle.apf_interp.proofs.tests.write_bytes.Given as goal

-- no more digits than there is room for
abbrev pub invariant-loop-c : goal.invariant-loop-c
invariant-loop-c l = l.count ≤ 128
