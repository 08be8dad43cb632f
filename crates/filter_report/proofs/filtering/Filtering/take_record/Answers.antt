use Rattle.std.proofs.Common.{◌++◌, ◌∷◌, []}
use Rattle.std.proofs.lemmas.Result.{err_from_is_err_and}
use Rattle.filter_core.specs.Replay.{Arrival, after_arrival, after_due}
use Rattle.filter_report.proofs.Adding.{breaks_later, passed_on, ok_adds, err_breaks}
use Rattle.filter_report.proofs.Leading.{along_fits, leads_arrival}
use Rattle.filter_report.specs.Along.{InCourse}
use Rattle.filter_report.specs.Lines.{BreaksOff}
use Rattle.filter_report.specs.Report.{Leads}
use Rattle.filter_report.proofs.filtering.Filtering.take_record.Goals as goal

pub returns-in_err-take_due-clause-err : goal.returns-in_err-take_due-clause-err
returns-in_err-take_due-clause-err g c = λ course frames.
    let p = err_from_is_err_and c.from_residual.result c.from_residual.ensures.1 in
    let arrival : Arrival = record { second = c.args.second; frame = c.args.frame.now } in
    let Before = InCourse course c.args.self.now frames in
    let Later = Leads (after_arrival course arrival).told (frames ++ c.args.frame.now ∷ []) in
    passed_on (λ fault. BreaksOff fault Before Later (g.O.Sink.held c.args.out.now) (g.O.Sink.held c.take_due.new.out)) _ p.0 c.in_err-take_due.field-0.0 p.1 p.2
    (breaks_later Before (Leads (after_due c.args.second course course.events).told frames) Later _ _ c.in_err-take_due.field-0.0
    (λ start lines before lead. leads_arrival course frames lines arrival (along_fits course c.args.self.now.core frames start before.along) lead)
    (c.in_err-take_due.ensures.err course frames))

pub returns-clause-ok : goal.returns-clause-ok
returns-clause-ok g c = λ course frames.
    let arrival : Arrival = record { second = c.args.second; frame = c.args.frame.now } in
    let d = after_due c.args.second course course.events in
    ok_adds (InCourse course c.args.self.now frames) (InCourse d c.take_due.new.self frames) (InCourse (after_arrival course arrival) c.take_frame.new.self (frames ++ c.args.frame.now ∷ [])) _ _ _ c.take_frame.result
    (c.in_ok-take_due.ensures.ok course frames) (c.take_frame.ensures.ok d frames)

pub returns-clause-err : goal.returns-clause-err
returns-clause-err g c = λ course frames.
    let arrival : Arrival = record { second = c.args.second; frame = c.args.frame.now } in
    let d = after_due c.args.second course course.events in
    err_breaks (InCourse course c.args.self.now frames) (InCourse d c.take_due.new.self frames) (Leads (after_arrival course arrival).told (frames ++ c.args.frame.now ∷ [])) _ _ _ c.take_frame.result
    (c.in_ok-take_due.ensures.ok course frames) (c.take_frame.ensures.err d frames)
