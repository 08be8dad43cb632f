use Rattle.std.proofs.Common.{◌≡◌, ◌≤◌, take, is_some}
use Rattle.std.specs.List.{count_by}
use Rattle.policy_state.proofs.state.FilterState.count_keepalives.Given as goal

abbrev pub invariant-loop-slot : goal.invariant-loop-slot
invariant-loop-slot l = record {
  counted : l.count ≡ count_by is_some (take l.slot-index l.self.keepalives);
  few : l.count ≤ l.slot-index;
}
