use Rattle.std.proofs.Common.{refl, arith, sym, ap, subst, ◌∙◌, ◌≡◌, ◌++◌, ◌∷◌, [], List, ℕ, drop, Err}
use Rattle.std.proofs.lemmas.Result.{err_from_is_err_and}
use Rattle.policy_state.specs.States.{start}
use Rattle.size_fit.specs.Sizes.{base, limit_of}
use Rattle.filter_core.specs.Replay.{begun}
use Rattle.filter_core.specs.declared.install.Install.{Install}
use Rattle.script_text.specs.Report.{gen_line}
use Rattle.filter_report.proofs.Reporting.{begun_in_course}
use Rattle.filter_report.proofs.Updating.{told_first, first-number}
use Rattle.filter_report.proofs.Leading.{leads}
use Rattle.filter_report.specs.declared.fault.ReportFault.TheVariants.{TooLarge}
use Rattle.filter_report.specs.Report.{Leads}
use Rattle.filter_report.specs.Along.{InCourse, Reporting}
use Rattle.filter_report.proofs.filtering.Filtering.begin.Goals as goal

pub returns-clause-ok : goal.returns-clause-ok
returns-clause-ok g c = λ lines nil.
    let line = c.in_ok-line.line in
    let along = told_first c.args.script c.in_ok-core.core line c.in_ok-core.ensures.along (c.in_ok-line.ensures ∙ ap (λ (i : Install). gen_line i.number i.at i.left i.code) c.install.ensures) in
    let f : Reporting = record { core = c.in_ok-core.core; left = drop 0 c.args.script.events; frames = 0; passed = 0 } in (
      line ∷ [],
      c.in_ok-write_lines.ensures.ok,
      subst (λ (ls : List (List ℕ)). InCourse (begun c.args.script) f [] (ls ++ line ∷ [])) (sym nil) (begun_in_course c.args.script f (line ∷ []) along refl refl refl),
    )

pub returns-in_err-write_lines-clause-front : goal.returns-in_err-write_lines-clause-front
returns-in_err-write_lines-clause-front g c = λ is lines nil.
    let line = c.in_ok-line.line in
    let along = told_first c.args.script c.in_ok-core.core line c.in_ok-core.ensures.along (c.in_ok-line.ensures ∙ ap (λ (i : Install). gen_line i.number i.at i.left i.code) c.install.ensures) in (
      line ∷ [],
      c.in_err-write_lines.ensures.front,
      subst (λ (ls : List (List ℕ)). Leads (begun c.args.script).told [] (ls ++ line ∷ [])) (sym nil) (leads (begun c.args.script) c.in_ok-core.core [] (line ∷ []) along),
    )

pub invariant_of-result : goal.invariant_of-result
invariant_of-result g c = (omega arith, omega arith, omega arith, omega (arith, first-number c.in_ok-core.core c.args.script.config c.args.script.start c.in_ok-core.ensures.along), omega arith)

-- the core stands, so its base fits
pub returns-clause-fits : goal.returns-clause-fits
returns-clause-fits g c = λ lt. let x = c.in_ok-core.ensures.fits lt in absurd cc

pub returns-in_err-line-clause-fits : goal.returns-in_err-line-clause-fits
returns-in_err-line-clause-fits g c = λ lt. let x = c.in_ok-core.ensures.fits lt in absurd cc

pub returns-in_err-write_lines-clause-fits : goal.returns-in_err-write_lines-clause-fits
returns-in_err-write_lines-clause-fits g c = λ lt. let x = c.in_ok-core.ensures.fits lt in absurd cc

pub returns-in_err-core-clause-fits : goal.returns-in_err-core-clause-fits
returns-in_err-core-clause-fits g c = λ lt.
    let p = err_from_is_err_and c.from_residual.result c.from_residual.ensures.1 in
    let x = c.in_err-core.ensures.fits lt in
    let same : c.in_err-core.field-0.0 ≡ TooLarge (base c.args.script.config start) (limit_of c.args.script.config) = cc in
    p.1 ∙ ap (λ e. Err e) (p.2 ∙ same)
