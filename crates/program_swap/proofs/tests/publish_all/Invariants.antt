use Rattle.std.proofs.Common.{IsTrue}
use Rattle.program_swap.specs.Histories.{LastNumber}
use Rattle.program_swap.proofs.tests.publish_all.Given as goal

abbrev pub invariant-loop-last : goal.invariant-loop-last
invariant-loop-last g l = IsTrue l.installer.live × LastNumber l.installer.published l.last
