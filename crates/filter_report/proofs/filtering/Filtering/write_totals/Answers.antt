use Rattle.std.proofs.Common.{sym, ap, subst, ◌∙◌, ◌+◌, List, ℕ, drop, OnOk, OnErr}
use Rattle.std.specs.List.{concat}
use Rattle.apf_base.specs.Streams.{AppendsAll, AppendsPart}
use Rattle.filter_report.proofs.Summing.{totals_of}
use Rattle.filter_report.specs.Along.{InCourse, Reporting}
use Rattle.filter_report.specs.Text.{last_lines}
use Rattle.filter_report.proofs.filtering.Filtering.write_totals.Goals as goal

pub returns-clause-ok : goal.returns-clause-ok
returns-clause-ok g c = λ course frames lines before.
    let inside = c.self.inside in
    let f : Reporting = record { core = inside.core; left = drop inside.taken inside.events; frames = inside.frames; passed = inside.passed } in
    subst (λ (ls : List (List ℕ)). OnOk c.write_lines.result (AppendsAll (g.O.Sink.held c.args.out.now) (g.O.Sink.held c.write_lines.new.out) ls))
    (c.as_slice.ensures ∙ totals_of course f frames lines c.in_ok-lines.lines (c.number-installs.result + 1) c.self.invariant.2 (ap (λ (n : ℕ). n + 1) c.number-installs.ensures)
    (c.in_ok-lines.ensures ∙ ap (λ (m : List ℕ). last_lines m inside.frames inside.passed (c.number-installs.result + 1)) c.memory.ensures)
    (subst (λ (r : Reporting). InCourse course r frames lines) (sym c.self.view_is) before))
    c.write_lines.ensures.ok

pub returns-clause-front : goal.returns-clause-front
returns-clause-front g c = λ course frames lines before is.
    let inside = c.self.inside in
    let f : Reporting = record { core = inside.core; left = drop inside.taken inside.events; frames = inside.frames; passed = inside.passed } in
    let broken = subst (λ r. OnErr r (AppendsPart (g.O.Sink.held c.args.out.now) (g.O.Sink.held c.write_lines.new.out) (concat c.as_slice.result.now))) is c.write_lines.ensures.front in
    subst (λ (ls : List (List ℕ)). AppendsPart (g.O.Sink.held c.args.out.now) (g.O.Sink.held c.write_lines.new.out) (concat ls))
    (c.as_slice.ensures ∙ totals_of course f frames lines c.in_ok-lines.lines (c.number-installs.result + 1) c.self.invariant.2 (ap (λ (n : ℕ). n + 1) c.number-installs.ensures)
    (c.in_ok-lines.ensures ∙ ap (λ (m : List ℕ). last_lines m inside.frames inside.passed (c.number-installs.result + 1)) c.memory.ensures)
    (subst (λ (r : Reporting). InCourse course r frames lines) (sym c.self.view_is) before))
    broken
