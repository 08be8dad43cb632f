-- The lines that were passed are skipped.
use Rattle.std.proofs.Common.{◌≡◌, length}
use Rattle.script_text.specs.ScriptReading.{left, end_line}
use Rattle.script_text.proofs.lines.Lines.next_line.Given as goal

abbrev pub invariant-loop-line : goal.invariant-loop-line
invariant-loop-line l = record {
  left : left l.self ≡ left l.fn.self;
  end : end_line l.self ≡ end_line l.fn.self;
}

abbrev pub decreases-loop-line : goal.decreases-loop-line
decreases-loop-line l = length l.self.rest.now
