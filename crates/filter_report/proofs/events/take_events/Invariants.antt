use Rattle.std.proofs.Common.{◌≤◌, ◌+◌, List, ℕ, take, fold}
use Rattle.filter_core.specs.Replay.{Course, after_event}
use Rattle.filter_report.specs.Along.{Along}
use Rattle.filter_report.specs.Lines.{Adds}
use Rattle.filter_report.proofs.events.take_events.Given as goal

abbrev pub invariant-loop-event : goal.invariant-loop-event
invariant-loop-event g l = record {
  written : (c : Course) (frames : List (List ℕ))
      → Adds (Along c l.fn.core frames) (Along (fold after_event c (take l.event-index l.events)) l.core frames) (g.O.Sink.held l.fn.out) (g.O.Sink.held l.out);
  number : l.core.install.number ≤ l.fn.core.install.number + l.event-index;
  faults : g.O.Sink.faults l.fn.out ≤ g.O.Sink.faults l.out;
}
