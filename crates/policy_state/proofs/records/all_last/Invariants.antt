use Rattle.std.proofs.Common.{◌≡◌, take, true}
use Rattle.std.specs.List.{list_all}
use Rattle.policy_state.specs.Records.{lasts}
use Rattle.policy_state.proofs.records.all_last.Given as goal

abbrev pub invariant-loop-lifetime : goal.invariant-loop-lifetime
invariant-loop-lifetime l = list_all (lasts l.hold l.frame) (take l.lifetime-index l.lifetimes) ≡ true
