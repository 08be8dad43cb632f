use Rattle.std.proofs.Common.{refl, sym, ap, subst, ◌∙◌, ◌≡◌, List, ℕ, take, drop, fold, OnOk, IfErr}
use Rattle.std.proofs.lemmas.List.{drop-drop}
use Rattle.policy_state.specs.declared.basis.Timed.{Timed}
use Rattle.filter_core.specs.Replay.{after_event, after_due}
use Rattle.filter_report.proofs.Adding.{ok_before, err_before, ok_later, err_later}
use Rattle.filter_report.proofs.Leading.{due_leads}
use Rattle.filter_report.proofs.Reporting.{due_in_course}
use Rattle.filter_report.specs.Along.{Along, InCourse, Reporting}
use Rattle.filter_report.specs.Lines.{Adds, BreaksOff}
use Rattle.filter_report.specs.Report.{Leads}
use Rattle.filter_report.proofs.filtering.Filtering.take_due.Goals as goal

pub returns-clause-ok : goal.returns-clause-ok
returns-clause-ok g c = λ course frames.
    let inside = c.self.inside in
    let old : Reporting = record { core = inside.core; left = drop inside.taken inside.events; frames = inside.frames; passed = inside.passed } in
    let see : (lines : List (List ℕ)) → InCourse course c.args.self.now frames lines → InCourse course old frames lines = λ lines before. subst (λ (r : Reporting). InCourse course r frames lines) (sym c.self.view_is) before in
    let count = c.due-count.result in
    let left_is : c.split_at.result.1.now ≡ old.left = c.split_at.ensures.back ∙ ap (λ (l : List Timed). drop inside.taken l) c.as_slice.ensures in
    let events_is : c.split_at-2.result.0.now ≡ take count old.left = c.split_at-2.ensures.front ∙ ap (λ (l : List Timed). take count l) left_is in
    let due_is : after_due c.args.second course old.left ≡ record (fold after_event course (take count old.left)) { events = drop count old.left } =
    subst (λ (l : List Timed). after_due c.args.second course l ≡ record (fold after_event course (take count l)) { events = drop count l }) left_is (c.due-count.ensures.due course) in
    let a = g.O.Sink.held c.args.out.now in
    let b = g.O.Sink.held c.take_events.new.out in
    let Before = InCourse course c.args.self.now frames in
    let Earlier = Along course inside.core frames in
    let After = Along (fold after_event course (take count old.left)) c.take_events.new.core frames in
    ok_later Before After (InCourse (after_due c.args.second course course.events) _ frames) a b c.take_events.result
    (λ start lines before along. due_in_course course old _ c.args.second count frames start lines due_is (sym (drop-drop count inside.taken inside.events)) refl refl (see start before) along)
    (ok_before Before Earlier After a b (λ lines before. (see lines before).along) c.take_events.result
    (subst (λ (l : List Timed). OnOk c.take_events.result (Adds Earlier (Along (fold after_event course l) c.take_events.new.core frames) a b)) events_is (c.take_events.ensures.ok course frames)))

pub returns-clause-err : goal.returns-clause-err
returns-clause-err g c = λ course frames.
    let inside = c.self.inside in
    let old : Reporting = record { core = inside.core; left = drop inside.taken inside.events; frames = inside.frames; passed = inside.passed } in
    let see : (lines : List (List ℕ)) → InCourse course c.args.self.now frames lines → InCourse course old frames lines = λ lines before. subst (λ (r : Reporting). InCourse course r frames lines) (sym c.self.view_is) before in
    let count = c.due-count.result in
    let left_is : c.split_at.result.1.now ≡ old.left = c.split_at.ensures.back ∙ ap (λ (l : List Timed). drop inside.taken l) c.as_slice.ensures in
    let events_is : c.split_at-2.result.0.now ≡ take count old.left = c.split_at-2.ensures.front ∙ ap (λ (l : List Timed). take count l) left_is in
    let due_is : after_due c.args.second course old.left ≡ record (fold after_event course (take count old.left)) { events = drop count old.left } =
    subst (λ (l : List Timed). after_due c.args.second course l ≡ record (fold after_event course (take count l)) { events = drop count l }) left_is (c.due-count.ensures.due course) in
    let a = g.O.Sink.held c.args.out.now in
    let b = g.O.Sink.held c.take_events.new.out in
    let Before = InCourse course c.args.self.now frames in
    let Earlier = Along course inside.core frames in
    let After = Leads (fold after_event course (take count old.left)).told frames in
    err_later Before After (Leads (after_due c.args.second course course.events).told frames) a b c.take_events.result
    (λ start lines before lead. due_leads course c.args.second count old.left frames lines (see start before).events due_is lead)
    (err_before Before Earlier After a b (λ lines before. (see lines before).along) c.take_events.result
    (subst (λ (l : List Timed). IfErr c.take_events.result (λ fault. BreaksOff fault Earlier (Leads (fold after_event course l).told frames) a b)) events_is (c.take_events.ensures.err course frames)))
