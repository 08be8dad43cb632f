use Rattle.std.proofs.Common.{refl, arith, sym, ap, subst, ◌∙◌, ◌≡◌, List, ℕ, drop, fold, OnOk, IfErr}
use Rattle.std.proofs.lemmas.List.{drop_all}
use Rattle.policy_state.specs.declared.basis.Timed.{Timed}
use Rattle.filter_core.specs.Replay.{after_event, finished}
use Rattle.filter_report.proofs.Adding.{ok_before, err_before, ok_later, err_later}
use Rattle.filter_report.proofs.Reporting.{rest_in_course}
use Rattle.filter_report.specs.Along.{Along, InCourse, Reporting}
use Rattle.filter_report.specs.Lines.{Adds, BreaksOff}
use Rattle.filter_report.specs.Report.{Leads}
use Rattle.filter_report.proofs.filtering.Filtering.take_rest.Goals as goal

pub returns-clause-ok : goal.returns-clause-ok
returns-clause-ok g c = λ course frames.
    let inside = c.self.inside in
    let old : Reporting = record { core = inside.core; left = drop inside.taken inside.events; frames = inside.frames; passed = inside.passed } in
    let see : (lines : List (List ℕ)) → InCourse course c.args.self.now frames lines → InCourse course old frames lines = λ lines before. subst (λ (r : Reporting). InCourse course r frames lines) (sym c.self.view_is) before in
    let left_is : c.split_at.result.1.now ≡ old.left = c.split_at.ensures.back ∙ ap (λ (l : List Timed). drop inside.taken l) c.as_slice.ensures in
    let a = g.O.Sink.held c.args.out.now in
    let b = g.O.Sink.held c.take_events.new.out in
    let Before = InCourse course c.args.self.now frames in
    let Earlier = Along course inside.core frames in
    let After = Along (fold after_event course old.left) c.take_events.new.core frames in
    ok_later Before After (InCourse (finished course) _ frames) a b c.take_events.result
    (λ start lines before along. rest_in_course course old _ frames start lines (drop_all _ inside.events (omega (arith, c.len-self-inside.ensures))) refl refl (see start before) along)
    (ok_before Before Earlier After a b (λ lines before. (see lines before).along) c.take_events.result
    (subst (λ (l : List Timed). OnOk c.take_events.result (Adds Earlier (Along (fold after_event course l) c.take_events.new.core frames) a b)) left_is (c.take_events.ensures.ok course frames)))

pub returns-clause-err : goal.returns-clause-err
returns-clause-err g c = λ course frames.
    let inside = c.self.inside in
    let old : Reporting = record { core = inside.core; left = drop inside.taken inside.events; frames = inside.frames; passed = inside.passed } in
    let see : (lines : List (List ℕ)) → InCourse course c.args.self.now frames lines → InCourse course old frames lines = λ lines before. subst (λ (r : Reporting). InCourse course r frames lines) (sym c.self.view_is) before in
    let left_is : c.split_at.result.1.now ≡ old.left = c.split_at.ensures.back ∙ ap (λ (l : List Timed). drop inside.taken l) c.as_slice.ensures in
    let a = g.O.Sink.held c.args.out.now in
    let b = g.O.Sink.held c.take_events.new.out in
    let Before = InCourse course c.args.self.now frames in
    let Earlier = Along course inside.core frames in
    let After = Leads (fold after_event course old.left).told frames in
    err_later Before After (Leads (finished course).told frames) a b c.take_events.result
    (λ start lines before lead. subst (λ (es : List Timed). Leads (fold after_event course es).told frames lines) (sym (see start before).events) lead)
    (err_before Before Earlier After a b (λ lines before. (see lines before).along) c.take_events.result
    (subst (λ (l : List Timed). IfErr c.take_events.result (λ fault. BreaksOff fault Earlier (Leads (fold after_event course l).told frames) a b)) left_is (c.take_events.ensures.err course frames)))
