use Rattle.std.proofs.Common.{◌≤◌, ◌+◌, take, fold}
use Rattle.filter_core.specs.Replay.{Course, after_event}
use Rattle.filter_report.specs.Scripted.{HasListed}
use Rattle.filter_report.proofs.scripted.ScriptTold.take_events.Given as goal

abbrev pub invariant-loop-event : goal.invariant-loop-event
invariant-loop-event l = record {
  listed : (c : Course) → HasListed c l.fn.core l.fn.self.installs l.fn.self.lines → HasListed (fold after_event c (take l.event-index l.events)) l.core l.self.installs l.self.lines;
  number : l.core.install.number ≤ l.fn.core.install.number + l.event-index;
}
