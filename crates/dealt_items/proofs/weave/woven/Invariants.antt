use Rattle.std.proofs.Common.{◌≡◌, ◌-◌, ◌<◌, ◌≤◌, ◌++◌, length, map}
use Rattle.dealt_items.specs.Dealing.{woven}
use Rattle.dealt_items.proofs.Weaving.{queue}
use Rattle.dealt_items.proofs.weave.woven.Given as goal

abbrev pub invariant-loop-k : goal.invariant-loop-k
invariant-loop-k g l = record {
  hand : l.hand < length l.hands;
  row : l.row ≤ l._k;
  woven : l.items ++ woven (l.n - l._k) (queue l.row l.hand (map g.H.Hand.kept l.hands)) ≡ woven l.n (map g.H.Hand.kept l.hands);
}
