use Rattle.std.proofs.Common.{[]}
use Rattle.std.proofs.lemmas.Result.{err_from_is_err_and}
use Rattle.filter_core.specs.Replay.{finished, totals}
use Rattle.filter_report.proofs.Adding.{adds_known, breaks_known, breaks_later, err_breaks, ok_adds, passed_on}
use Rattle.filter_report.proofs.Leading.{leads_ended, leads_end}
use Rattle.filter_report.proofs.Summing.{told_end, end_leads}
use Rattle.filter_report.specs.Along.{InCourse}
use Rattle.filter_report.specs.Lines.{BreaksOff}
use Rattle.filter_report.specs.Report.{Leads, Tells, ended}
use Rattle.filter_report.specs.Text.{entry_lines}
use Rattle.filter_report.proofs.filtering.Filtering.finish.Goals as goal

pub returns-in_err-take_rest-clause-err : goal.returns-in_err-take_rest-clause-err
returns-in_err-take_rest-clause-err g c = λ course frames.
    let p = err_from_is_err_and c.from_residual.result c.from_residual.ensures.1 in
    let Before = InCourse course c.args.self frames in
    let Later = Leads (ended course) frames in
    let a = g.O.Sink.held c.args.out.now in
    let b = g.O.Sink.held c.take_rest.new.out in
    passed_on (λ fault. BreaksOff fault Before Later a b) _ p.0 c.in_err-take_rest.field-0.0 p.1 p.2
    (breaks_later Before (Leads (finished course).told frames) Later a b c.in_err-take_rest.field-0.0
    (λ start lines before lead. leads_ended course frames lines lead)
    (c.in_err-take_rest.ensures.err course frames))

pub returns-clause-ok : goal.returns-clause-ok
returns-clause-ok g c = λ course frames.
    let d = finished course in
    let Before = InCourse course c.args.self frames in
    let Between = InCourse d c.take_rest.new.self frames in
    let After = Tells (ended course) frames in
    let b = g.O.Sink.held c.take_rest.new.out in
    let end = g.O.Sink.held c.write_totals.new.out in
    ok_adds Before Between After _ b end c.write_totals.result (c.in_ok-take_rest.ensures.ok course frames)
    (adds_known Between After b end (entry_lines [] [] (totals d.told)) (λ lines here. told_end d _ frames lines here.along) c.write_totals.result (c.write_totals.ensures.ok d frames))

pub returns-clause-err : goal.returns-clause-err
returns-clause-err g c = λ course frames.
    let d = finished course in
    let Before = InCourse course c.args.self frames in
    let Between = InCourse d c.take_rest.new.self frames in
    let After = Leads (ended course) frames in
    let b = g.O.Sink.held c.take_rest.new.out in
    let end = g.O.Sink.held c.write_totals.new.out in
    err_breaks Before Between After _ b end c.write_totals.result (c.in_ok-take_rest.ensures.ok course frames)
    (breaks_known Between After b end (entry_lines [] [] (totals d.told)) (λ lines here. end_leads d _ frames lines here.along) c.write_totals.result
    (λ lines here. leads_end d _ frames lines here.along) c.write_totals.ensures.quiet (c.write_totals.ensures.front d frames))
