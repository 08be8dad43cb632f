use Rattle.std.proofs.Common.{◌≤◌, take}
use Rattle.apf_base.specs.Streams.{AppendsAll}
use Rattle.filter_report.proofs.writing.write_lines.Given as goal

abbrev pub invariant-loop-line : goal.invariant-loop-line
invariant-loop-line g l = record {
  written : AppendsAll (g.O.Sink.held l.fn.out) (g.O.Sink.held l.out) (take l.line-index l.lines);
  faults : g.O.Sink.faults l.fn.out ≤ g.O.Sink.faults l.out;
}
