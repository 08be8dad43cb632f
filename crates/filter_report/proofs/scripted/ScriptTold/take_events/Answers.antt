use Rattle.std.proofs.Common.{refl, rules, arith, sym, subst, take, fold, get_or}
use Rattle.filter_core.specs.Replay.{Course, after_event}
use Rattle.filter_core.proofs.DueEvents.{fold_one, fold_all, no_event}
use Rattle.filter_report.specs.Scripted.{HasListed}
use Rattle.filter_report.proofs.scripted.ScriptTold.take_events.Goals as goal

pub loop-event-preserved : goal.loop-event-preserved
loop-event-preserved c = record {
  listed = λ course listed.
      let i = c.loop-event.event-index in
      let d = fold after_event course (take i c.args.events.now) in
      subst (λ (e : Course). HasListed e c.take_event.new.core c.take_event.new.self.installs c.take_event.new.self.lines)
      (sym (fold_one after_event course c.args.events.now i no_event (get_or c.args.events.now i no_event) (search rules) refl))
      (c.in_ok-take_event.ensures.ok d (c.loop-event.invariant.listed course listed));
  number = omega (arith, c.loop-event.invariant.number, c.in_ok-take_event.ensures.number);
}
