-- Each turn takes an event.
use Rattle.std.proofs.Common.{List, ap, sym, ◌∙◌}
use Rattle.std.proofs.lemmas.Result.{err_from_is_err_and}
use Rattle.policy_state.specs.declared.basis.Timed.{Timed}
use Rattle.script_text.specs.ScriptReading.{left, with_events, events_from}
use Rattle.script_text.proofs.Telling.{turn, stopped, ended}
use Rattle.script_text.proofs.script.read_events.Goals as goal

pub returns-in_err-event : goal.returns-in_err-event
returns-in_err-event c =
    let l = c.loop-line in
    let p = err_from_is_err_and c.from_residual.result c.from_residual.ensures.1 in
    rw (p.1, p.2)
    (stopped (events_from c.args.start (left c.args.lines.now)) l.events l.latest c.next_line.new.self.number c.in-Some.line.now (left l.lines) (left c.next_line.new.self) c.in_err-event.field-0.0 l.invariant c.in-Some.ensures.line (sym c.event_at.ensures ∙ c.in_err-event.was))

pub loop-line-preserved : goal.loop-line-preserved
loop-line-preserved c =
    let l = c.loop-line in
    let t = turn (events_from c.args.start (left c.args.lines.now)) l.events l.latest c.next_line.new.self.number c.in-Some.line.now (left l.lines) (left c.next_line.new.self) c.in_ok-event.event l.invariant c.in-Some.ensures.line (sym c.event_at.ensures ∙ c.in_ok-event.was) in
    t ∙ ap (λ (events : List Timed). with_events events (events_from c.in_ok-event.event.time (left c.next_line.new.self))) (sym c.in_ok-push.ensures.ok)

pub returns : goal.returns
returns c =
    let l = c.loop-line in
    ended (events_from c.args.start (left c.args.lines.now)) l.events l.latest (left l.lines) l.invariant c.in_default.ensures.line.0
