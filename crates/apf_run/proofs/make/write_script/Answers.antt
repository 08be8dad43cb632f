use Rattle.std.proofs.Common.{map}
use Rattle.made_input.specs.MadeScripts.{ended, opening}
use Rattle.command_plan.proofs.Following.{err_is}
use Rattle.command_plan.proofs.Saying.{says_more, says_broken}
use Rattle.apf_run.proofs.Made.{script_lines}
use Rattle.apf_run.proofs.Counted.{said_as}
use Rattle.apf_run.proofs.make.write_script.Goals as goal

pub returns-in_err-write_opening : goal.returns-in_err-write_opening
returns-in_err-write_opening g c =
    said_as _ _ _ _ _ (script_lines c.args.n)
    (says_broken _ _ (map ended opening) _ _ c.in_err-write_opening.field-0.0 c.in_err-write_opening.ensures (err_is _ _ c.from_residual.ensures.1))

pub returns : goal.returns
returns g c =
    said_as _ _ _ _ _ (script_lines c.args.n)
    (says_more _ _ (map ended opening) _ _ _ c.in_ok-write_opening.ensures c.write_changes.ensures)
