-- What was read, and what is left.
use Rattle.std.proofs.Common.{◌≡◌, length}
use Rattle.script_text.specs.ScriptReading.{left, with_events, events_from}
use Rattle.script_text.proofs.script.read_events.Given as goal

abbrev pub invariant-loop-line : goal.invariant-loop-line
invariant-loop-line l = events_from l.start (left l.fn.lines) ≡ with_events l.events (events_from l.latest (left l.lines))

abbrev pub decreases-loop-line : goal.decreases-loop-line
decreases-loop-line l = length (left l.lines)
