use Rattle.std.proofs.Common.{rules, arith, ◌∙◌}
use Rattle.std.proofs.KnownBytes.{Appends-nil}
use Rattle.std.proofs.lemmas.Result.{err_from_is_err_and}
use Rattle.filter_report.proofs.Adding.{one_more_line, line_fails, all_lines}
use Rattle.filter_report.proofs.writing.write_lines.Goals as goal

pub loop-line-init : goal.loop-line-init
loop-line-init g c = record { written = Appends-nil _; faults = omega arith }

pub loop-line-preserved : goal.loop-line-preserved
loop-line-preserved g c = record {
  written = one_more_line c.args.lines.now c.loop-line.line-index _ c.as_slice.result.now _ _ _ (search rules) (c.as_slice.ensures ∙ c.line-item.is) c.loop-line.invariant.written c.in_ok-write_all.ensures.ok;
  faults = omega (arith, c.in_ok-write_all.ensures.cause.later);
}

pub returns-in_err-write_all-clause-front : goal.returns-in_err-write_all-clause-front
returns-in_err-write_all-clause-front g c =
    let p = err_from_is_err_and c.from_residual.result c.from_residual.ensures.1 in
    rw (p.1) (line_fails c.args.lines.now c.loop-line.line-index _ c.as_slice.result.now _ _ _ (search rules) (c.as_slice.ensures ∙ c.line-item.is) c.loop-line.invariant.written c.in_err-write_all.ensures.err)

pub returns-clause-ok : goal.returns-clause-ok
returns-clause-ok g c = all_lines c.args.lines.now c.loop-line.line-index _ _ (search rules) c.loop-line.invariant.written
