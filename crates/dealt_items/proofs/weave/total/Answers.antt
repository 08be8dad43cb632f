use Rattle.dealt_items.proofs.Summing.{sum-none}
use Rattle.dealt_items.proofs.weave.total.Goals as goal

pub loop-hand-init : goal.loop-hand-init
loop-hand-init g c = sum-none
