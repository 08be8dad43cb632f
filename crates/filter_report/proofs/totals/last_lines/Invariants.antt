use Rattle.std.proofs.Common.{◌≡◌}
use Rattle.filter_report.proofs.Summing.{counted_lines}
use Rattle.filter_report.proofs.totals.last_lines.Given as goal

abbrev pub invariant-loop-counter : goal.invariant-loop-counter
invariant-loop-counter l = l.lines ≡ counted_lines l.memory l.counter-index
