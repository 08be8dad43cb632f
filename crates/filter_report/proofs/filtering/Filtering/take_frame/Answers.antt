use Rattle.std.proofs.Common.{refl, arith, sym, ap, ◌∙◌, ◌++◌, ◌∷◌, ◌+◌, [], List, ℕ, drop, subst, OnOk, OnErr}
use Rattle.std.specs.List.{concat}
use Rattle.apf_base.specs.Streams.{AppendsAll, AppendsPart}
use Rattle.std.proofs.lemmas.Result.{err_from_is_err_and}
use Rattle.filter_core.specs.Replay.{Arrival, after_frame}
use Rattle.filter_report.proofs.Adding.{adds_these, breaks_these, breaks_none}
use Rattle.filter_report.proofs.Leading.{leads, leads_frame}
use Rattle.filter_report.proofs.Reporting.{frame_in_course}
use Rattle.filter_report.specs.Along.{InCourse, Reporting}
use Rattle.filter_report.specs.Report.{Leads}
use Rattle.filter_report.specs.Text.{with_one}
use Rattle.filter_report.proofs.filtering.Filtering.take_frame.Goals as goal

pub frame_lines-requires-clause-number : goal.frame_lines-requires-clause-number
frame_lines-requires-clause-number g c = omega (arith, c.self.invariant.0, c.self.invariant.2, c.self.invariant.3, c.self.invariant.4)

pub returns-in_err-done-clause-err : goal.returns-in_err-done-clause-err
returns-in_err-done-clause-err g c = λ course frames.
    let p = err_from_is_err_and c.from_residual.result c.from_residual.ensures.1 in
    let arrival : Arrival = record { second = c.args.second; frame = c.args.frame.now } in
    rw (p.1) (breaks_none (InCourse course c.args.self.now frames) (Leads (after_frame course arrival).told (frames ++ c.args.frame.now ∷ [])) _ p.0 p.2
    (λ lines before. leads_frame course c.args.self.now.core frames lines arrival before.along))

pub returns-clause-ok : goal.returns-clause-ok
returns-clause-ok g c = λ course frames.
    let inside = c.self.inside in
    let old : Reporting = record { core = inside.core; left = drop inside.taken inside.events; frames = inside.frames; passed = inside.passed } in
    let see : (lines : List (List ℕ)) → InCourse course c.args.self.now frames lines → InCourse course old frames lines = λ lines before. subst (λ (r : Reporting). InCourse course r frames lines) (sym c.self.view_is) before in
    let arrival : Arrival = record { second = c.args.second; frame = c.args.frame.now } in
    adds_these (InCourse course c.args.self.now frames) (InCourse (after_frame course arrival) _ (frames ++ c.args.frame.now ∷ [])) _ _ (c.in_ok-done.done.line ∷ c.in_ok-done.done.more) c.write_first_and_more.result
    (λ lines was. let before = see lines was in frame_in_course course old _ arrival frames lines (lines ++ (c.in_ok-done.done.line ∷ c.in_ok-done.done.more)) refl refl
    (c.in_ok-done.ensures.passed course frames lines before.along ∙ ap (λ (n : ℕ). with_one c.in_ok-done.done.passed n) (sym before.frames_passed) ∙ sym c.with_one-self-inside.ensures.value)
    before (c.in_ok-done.ensures.along course frames lines before.along (ap (λ (n : ℕ). n + 1) before.frames_taken)))
    (subst (λ (ls : List (List ℕ)). OnOk c.write_first_and_more.result (AppendsAll (g.O.Sink.held c.args.out.now) (g.O.Sink.held c.write_first_and_more.new.out) (c.in_ok-done.done.line ∷ ls))) c.as_slice.ensures c.write_first_and_more.ensures.ok)

pub returns-clause-err : goal.returns-clause-err
returns-clause-err g c = λ course frames.
    let inside = c.self.inside in
    let old : Reporting = record { core = inside.core; left = drop inside.taken inside.events; frames = inside.frames; passed = inside.passed } in
    let see : (lines : List (List ℕ)) → InCourse course c.args.self.now frames lines → InCourse course old frames lines = λ lines before. subst (λ (r : Reporting). InCourse course r frames lines) (sym c.self.view_is) before in
    let arrival : Arrival = record { second = c.args.second; frame = c.args.frame.now } in
    breaks_these (InCourse course c.args.self.now frames) (Leads (after_frame course arrival).told (frames ++ c.args.frame.now ∷ [])) _ _ (c.in_ok-done.done.line ∷ c.in_ok-done.done.more) c.write_first_and_more.result
    (λ lines was. let before = see lines was in leads (after_frame course arrival) c.frame_lines.new.core (frames ++ c.args.frame.now ∷ []) (lines ++ (c.in_ok-done.done.line ∷ c.in_ok-done.done.more))
    (c.in_ok-done.ensures.along course frames lines before.along (ap (λ (n : ℕ). n + 1) before.frames_taken)))
    c.write_first_and_more.ensures.err
    (subst (λ (ls : List (List ℕ)). OnErr c.write_first_and_more.result (AppendsPart (g.O.Sink.held c.args.out.now) (g.O.Sink.held c.write_first_and_more.new.out) (concat (c.in_ok-done.done.line ∷ ls)))) c.as_slice.ensures c.write_first_and_more.ensures.front)
