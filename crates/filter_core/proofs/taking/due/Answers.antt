use Rattle.std.proofs.Common.{refl, rules, arith, sym, ap, ◌∙◌, ℕ, take, drop, fold, get_or}
use Rattle.filter_core.specs.Replay.{after_event}
use Rattle.filter_core.proofs.DueEvents.{due_step, due_stop, due_all, no_event}
use Rattle.filter_core.proofs.taking.due.Goals as goal

pub loop-event-init : goal.loop-event-init
loop-event-init c = record { count = refl; due = λ course. refl }

pub loop-event-preserved : goal.loop-event-preserved
loop-event-preserved c = record {
  count = omega arith;
  due = λ course. c.loop-event.invariant.due course ∙ due_step c.args.second course c.args.events.now c.loop-event.event-index no_event (get_or c.args.events.now c.loop-event.event-index no_event) (search rules) refl (sym c.is_due.ensures ∙ (search rules));
}

pub returns-then-not-is_due-clause-due : goal.returns-then-not-is_due-clause-due
returns-then-not-is_due-clause-due c = λ course.
    c.loop-event.invariant.due course ∙ due_stop c.args.second course c.args.events.now c.loop-event.event-index no_event (get_or c.args.events.now c.loop-event.event-index no_event) (search rules) refl (sym c.is_due.ensures ∙ (search rules))
    ∙ ap (λ (n : ℕ). record (fold after_event course (take n c.args.events.now)) { events = drop n c.args.events.now }) (sym c.loop-event.invariant.count)

pub returns-clause-due : goal.returns-clause-due
returns-clause-due c = λ course.
    c.loop-event.invariant.due course ∙ due_all c.args.second course c.args.events.now c.loop-event.event-index (search rules)
    ∙ ap (λ (n : ℕ). record (fold after_event course (take n c.args.events.now)) { events = drop n c.args.events.now }) (sym c.loop-event.invariant.count)
