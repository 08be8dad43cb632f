use Rattle.std.proofs.Common.{◌≡◌, drop}
use Rattle.filter_core.specs.Installs.{least_hold}
use Rattle.filter_core.proofs.LeastHold.{joined}
use Rattle.filter_core.proofs.ending.least_hold.Given as goal

abbrev pub invariant-loop-one : goal.invariant-loop-one
invariant-loop-one l = joined l.least (least_hold (drop l.one-index l.chosen)) ≡ least_hold l.chosen
