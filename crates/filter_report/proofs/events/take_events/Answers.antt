use Rattle.std.proofs.Common.{refl, rules, arith, sym, subst, take, fold, get_or}
use Rattle.std.proofs.lemmas.Result.{err_from_is_err_and}
use Rattle.filter_core.specs.Replay.{Course, after_event}
use Rattle.filter_report.proofs.Adding.{adds_adds, adds_breaks, adds_none, breaks_later, passed_on}
use Rattle.filter_report.proofs.Leading.{along_fits, leads_behind}
use Rattle.filter_core.proofs.DueEvents.{fold_one, fold_all, no_event}
use Rattle.filter_report.specs.Along.{Along}
use Rattle.filter_report.specs.Lines.{Adds, BreaksOff}
use Rattle.filter_report.specs.Report.{Leads}
use Rattle.filter_report.proofs.events.take_events.Goals as goal

pub loop-event-init : goal.loop-event-init
loop-event-init g c = record {
  written = λ course frames. adds_none (Along course c.args.core.now frames) (Along course c.args.core.now frames) _ (λ lines along. along);
  number = omega arith;
  faults = omega arith;
}

pub loop-event-preserved : goal.loop-event-preserved
loop-event-preserved g c = record {
  written = λ course frames.
      let d = fold after_event course (take c.loop-event.event-index c.args.events.now) in
      subst (λ (e : Course). Adds (Along course c.args.core.now frames) (Along e c.take_event.new.core frames) (g.O.Sink.held c.args.out.now) (g.O.Sink.held c.take_event.new.out))
      (sym (fold_one after_event course c.args.events.now c.loop-event.event-index no_event (get_or c.args.events.now c.loop-event.event-index no_event) (search rules) refl))
      (adds_adds (Along course c.args.core.now frames) (Along d c.loop-event.core frames) (Along (after_event d (get_or c.args.events.now c.loop-event.event-index no_event)) c.take_event.new.core frames) _ _ _
      (c.loop-event.invariant.written course frames) (c.in_ok-take_event.ensures.ok d frames));
  number = omega (arith, c.loop-event.invariant.number, c.in_ok-take_event.ensures.number);
  faults = omega (arith, c.loop-event.invariant.faults, c.in_ok-take_event.ensures.faults);
}

pub returns-in_err-take_event-clause-err : goal.returns-in_err-take_event-clause-err
returns-in_err-take_event-clause-err g c = λ course frames.
    let p = err_from_is_err_and c.from_residual.result c.from_residual.ensures.1 in
    let d = fold after_event course (take c.loop-event.event-index c.args.events.now) in
    passed_on (λ fault. BreaksOff fault (Along course c.args.core.now frames) (Leads (fold after_event course c.args.events.now).told frames) (g.O.Sink.held c.args.out.now) (g.O.Sink.held c.take_event.new.out)) _ p.0 c.in_err-take_event.field-0.0 p.1 p.2
    (breaks_later (Along course c.args.core.now frames) (Leads (after_event d (get_or c.args.events.now c.loop-event.event-index no_event)).told frames) (Leads (fold after_event course c.args.events.now).told frames) _ _ c.in_err-take_event.field-0.0
    (λ start lines along lead. leads_behind course c.args.events.now c.loop-event.event-index no_event (get_or c.args.events.now c.loop-event.event-index no_event) frames lines (along_fits course c.args.core.now frames start along) (search rules) refl lead)
    (adds_breaks (Along course c.args.core.now frames) (Along d c.loop-event.core frames) (Leads (after_event d (get_or c.args.events.now c.loop-event.event-index no_event)).told frames) _ (g.O.Sink.held c.loop-event.out) (g.O.Sink.held c.take_event.new.out) c.in_err-take_event.field-0.0
    (c.loop-event.invariant.written course frames) (c.in_err-take_event.ensures.err d frames)))

pub returns-clause-ok : goal.returns-clause-ok
returns-clause-ok g c = λ course frames.
    subst (λ (e : Course). Adds (Along course c.args.core.now frames) (Along e c.loop-event.core frames) (g.O.Sink.held c.args.out.now) (g.O.Sink.held c.loop-event.out)) (fold_all after_event course c.args.events.now c.loop-event.event-index (search rules))
    (c.loop-event.invariant.written course frames)
