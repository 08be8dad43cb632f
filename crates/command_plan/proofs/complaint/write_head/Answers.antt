use Rattle.std.proofs.Common.{refl, ◌∙◌, ◌++◌}
use Rattle.std.specs.Prelude.{codes}
use Rattle.std.proofs.lemmas.Result.{err_from_is_err_and, on_ok_weaker, on_err_weaker}
use Rattle.command_line.specs.Lines.{texts}
use Rattle.command_plan.specs.Status.{fault_words, fault_name, fault_head}
use Rattle.command_plan.proofs.Fronts.{front_after, first_fails, third_fails, all_three}
use Rattle.command_plan.proofs.Stages.{part_front}
use Rattle.command_plan.proofs.complaint.write_head.Goals as goal

pub returns-in_err-write_all-clause-err : goal.returns-in_err-write_all-clause-err
unfolding fault_head
returns-in_err-write_all-clause-err g c =
    let p = err_from_is_err_and c.from_residual.result c.from_residual.ensures.1 in
    rw (p.1) (first_fails _ _ (codes "apf_run: ") (fault_words c.args.fault ++ fault_name c.args.fault (texts c.args.words.now)) _ (part_front _ _ _ c.in_err-write_all.ensures.err) refl)

pub returns-in_err-write_all-2-clause-err : goal.returns-in_err-write_all-2-clause-err
unfolding fault_head
returns-in_err-write_all-2-clause-err g c =
    let p = err_from_is_err_and c.from_residual-in_err-write_all-2.result c.from_residual-in_err-write_all-2.ensures.1 in
    let words = c.as_bytes.ensures.value ∙ c.fault_words.ensures in
    rw (p.1) (front_after _ _ _ (codes "apf_run: ") c.as_bytes.result.now (fault_name c.args.fault (texts c.args.words.now)) _
    c.in_ok-write_all.ensures.ok (part_front _ _ _ c.in_err-write_all-2.ensures.err) (rw words refl))

pub returns-clause-ok : goal.returns-clause-ok
unfolding fault_head
returns-clause-ok g c =
    let words = c.as_bytes.ensures.value ∙ c.fault_words.ensures in
    let name = c.as_bytes-2.ensures.value ∙ c.fault_name.ensures in
    on_ok_weaker c.write_all-3.result (λ now. all_three _ _ _ _ (codes "apf_run: ") c.as_bytes.result.now c.as_bytes-2.result.now _
    c.in_ok-write_all.ensures.ok c.in_ok-write_all-2.ensures.ok now (rw (words, name) refl)) c.write_all-3.ensures.ok

pub returns-clause-err : goal.returns-clause-err
unfolding fault_head
returns-clause-err g c =
    let words = c.as_bytes.ensures.value ∙ c.fault_words.ensures in
    let name = c.as_bytes-2.ensures.value ∙ c.fault_name.ensures in
    on_err_weaker c.write_all-3.result (λ now. third_fails _ _ _ _ (codes "apf_run: ") c.as_bytes.result.now c.as_bytes-2.result.now _
    c.in_ok-write_all.ensures.ok c.in_ok-write_all-2.ensures.ok (part_front _ _ _ now) (rw (words, name) refl)) c.write_all-3.ensures.err
