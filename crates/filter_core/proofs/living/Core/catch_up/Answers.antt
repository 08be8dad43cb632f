use Rattle.std.proofs.Common.{refl, rules, arith, sym, ap, ◌∙◌, take, fold, get_or}
use Rattle.filter_core.specs.Replay.{Course, after_event}
use Rattle.filter_core.specs.Calls.{update_installs}
use Rattle.filter_core.proofs.DueEvents.{fold_one, fold_all, no_event}
use Rattle.filter_core.proofs.TakenFrames.{event_kept, renews_least, renews_number, renews_stays}
use Rattle.filter_core.proofs.living.Core.catch_up.Goals as goal

pub loop-event-init : goal.loop-event-init
loop-event-init c = record {
  filter = λ course same. sym same;
  memory = refl;
  least = omega arith;
  stays = λ e. refl;
  number = omega arith;
}

pub loop-event-preserved : goal.loop-event-preserved
loop-event-preserved c =
    let event = get_or c.args.events.now c.loop-event.event-index no_event in
    let next = c.in_ok-update.ensures.install in
    record {
      filter = λ course same.
          event_kept (fold after_event course (take c.loop-event.event-index c.args.events.now)) c.loop-event.self c.update.new.self event (c.loop-event.invariant.filter course same) c.in_ok-update.ensures.filter
          ∙ ap (λ (d : Course). d.filter) (sym (fold_one after_event course c.args.events.now c.loop-event.event-index no_event event (search rules) refl));
      memory = c.in_ok-update.ensures.memory ∙ c.loop-event.invariant.memory;
      least = omega (arith, c.loop-event.invariant.least, renews_least (update_installs _) c.loop-event.self.install c.update.new.self.install next);
      stays = renews_stays (update_installs _) c.args.self.now.install c.loop-event.self.install c.update.new.self.install c.loop-event.invariant.least c.loop-event.invariant.stays next;
      number = omega (arith, c.loop-event.invariant.number, renews_number (update_installs _) c.loop-event.self.install c.update.new.self.install next);
    }

pub returns-clause-filter : goal.returns-clause-filter
returns-clause-filter c = λ course same.
    c.loop-event.invariant.filter course same ∙ ap (λ (d : Course). d.filter) (fold_all after_event course c.args.events.now c.loop-event.event-index (search rules))
