use Rattle.std.proofs.Common.{◌≡◌, take, drop, fold}
use Rattle.filter_core.specs.Replay.{Course, after_event, after_due}
use Rattle.filter_core.proofs.taking.due.Given as goal

abbrev pub invariant-loop-event : goal.invariant-loop-event
invariant-loop-event l = record {
  count : l.count ≡ l.event-index;
  due : (c : Course) → after_due l.second c l.events ≡ after_due l.second (fold after_event c (take l.event-index l.events)) (drop l.event-index l.events);
}
