use Rattle.std.proofs.Common.{refl, ◌++◌}
use Rattle.std.specs.Prelude.{codes}
use Rattle.std.proofs.lemmas.Result.{err_from_is_err_and, on_ok_weaker, on_err_weaker}
use Rattle.command_line.specs.Lines.{texts}
use Rattle.command_plan.specs.Status.{fault_head, fault_numbers, fault_line}
use Rattle.command_plan.proofs.Fronts.{front_after, first_fails, third_fails, all_three}
use Rattle.command_plan.proofs.Stages.{part_front}
use Rattle.command_plan.proofs.complaint.write_fault.Goals as goal

pub returns-in_err-write_head-clause-err : goal.returns-in_err-write_head-clause-err
unfolding fault_line
returns-in_err-write_head-clause-err g c =
    let p = err_from_is_err_and c.from_residual.result c.from_residual.ensures.1 in
    rw (p.1) (first_fails _ _ (fault_head c.args.fault (texts c.args.words.now)) (fault_numbers c.args.fault ++ codes "\n") _ c.in_err-write_head.ensures.err refl)

pub returns-in_err-write_numbers-clause-err : goal.returns-in_err-write_numbers-clause-err
unfolding fault_line
returns-in_err-write_numbers-clause-err g c =
    let p = err_from_is_err_and c.from_residual-in_err-write_numbers.result c.from_residual-in_err-write_numbers.ensures.1 in
    rw (p.1) (front_after _ _ _ (fault_head c.args.fault (texts c.args.words.now)) (fault_numbers c.args.fault) (codes "\n") _
    c.in_ok-write_head.ensures.ok c.in_err-write_numbers.ensures.err refl)

pub returns-clause-ok : goal.returns-clause-ok
unfolding fault_line
returns-clause-ok g c =
    on_ok_weaker c.write_all.result (λ now. all_three _ _ _ _ (fault_head c.args.fault (texts c.args.words.now)) (fault_numbers c.args.fault) (codes "\n") _
    c.in_ok-write_head.ensures.ok c.in_ok-write_numbers.ensures.ok now refl) c.write_all.ensures.ok

pub returns-clause-err : goal.returns-clause-err
unfolding fault_line
returns-clause-err g c =
    on_err_weaker c.write_all.result (λ now. third_fails _ _ _ _ (fault_head c.args.fault (texts c.args.words.now)) (fault_numbers c.args.fault) (codes "\n") _
    c.in_ok-write_head.ensures.ok c.in_ok-write_numbers.ensures.ok (part_front _ _ _ now) refl) c.write_all.ensures.err
