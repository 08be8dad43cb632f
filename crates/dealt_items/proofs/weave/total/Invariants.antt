use Rattle.std.proofs.Common.{map, take}
use Rattle.dealt_items.specs.Sums.{IsSumOf}
use Rattle.dealt_items.proofs.weave.total.Given as goal

abbrev pub invariant-loop-hand : goal.invariant-loop-hand
invariant-loop-hand g l = IsSumOf (map g.H.Hand.memory (take l.hand-index l.hands)) l.sum
