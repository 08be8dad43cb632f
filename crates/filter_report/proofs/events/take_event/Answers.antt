use Rattle.std.proofs.Common.{◌++◌, ◌∷◌, []}
use Rattle.std.proofs.lemmas.Result.{err_from_is_err_and}
use Rattle.filter_core.specs.Replay.{after_event}
use Rattle.filter_report.proofs.Adding.{adds_these, breaks_none, breaks_these}
use Rattle.filter_report.proofs.Leading.{leads, leads_event}
use Rattle.filter_report.specs.Along.{Along}
use Rattle.filter_report.specs.Report.{Leads}
use Rattle.filter_report.proofs.events.take_event.Goals as goal

pub returns-in_err-line-clause-err : goal.returns-in_err-line-clause-err
returns-in_err-line-clause-err g c = λ course frames.
    let p = err_from_is_err_and c.from_residual.result c.from_residual.ensures.1 in
    rw (p.1) (breaks_none (Along course c.args.core.now frames) (Leads (after_event course c.args.event.now).told frames) _ p.0 p.2
    (λ lines along. leads_event course c.args.core.now frames lines c.args.event.now along))

pub returns-clause-ok : goal.returns-clause-ok
returns-clause-ok g c = λ course frames.
    adds_these (Along course c.args.core.now frames) (Along (after_event course c.args.event.now) c.event_line.new.core frames) _ _ (c.in_ok-line.line ∷ []) c.write_lines.result
    (λ lines along. c.in_ok-line.ensures.along course frames lines along) c.write_lines.ensures.ok

pub returns-clause-err : goal.returns-clause-err
returns-clause-err g c = λ course frames.
    breaks_these (Along course c.args.core.now frames) (Leads (after_event course c.args.event.now).told frames) _ _ (c.in_ok-line.line ∷ []) c.write_lines.result
    (λ lines along. leads (after_event course c.args.event.now) c.event_line.new.core frames (lines ++ c.in_ok-line.line ∷ []) (c.in_ok-line.ensures.along course frames lines along))
    c.write_lines.ensures.err c.write_lines.ensures.front
