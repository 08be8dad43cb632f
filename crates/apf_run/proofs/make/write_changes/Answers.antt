use Rattle.std.proofs.Common.{◌∙◌, arith}
use Rattle.made_input.specs.MadeScripts.{doze_line, ended}
use Rattle.command_plan.proofs.Following.{err_is}
use Rattle.command_plan.proofs.Saying.{says_lack}
use Rattle.apf_run.proofs.Counted.{all_numbers, number_said, number_unsaid, no_numbers}
use Rattle.apf_run.proofs.make.write_changes.Goals as goal

pub loop-j-init : goal.loop-j-init
loop-j-init g c = λ b r h. all_numbers (λ j. ended (doze_line j)) c.args.changes _ b r h

pub returns-in_err-line : goal.returns-in_err-line
returns-in_err-line g c = c.loop-j.invariant _ _ (says_lack _ _ _ c.from_residual.ensures.1)

pub returns-in_err-say : goal.returns-in_err-say
returns-in_err-say g c =
    c.loop-j.invariant _ _
    (number_unsaid (λ j. ended (doze_line j)) c.args.changes _ _ _ c.loop-j.j c.as_bytes.result.now (omega arith) (c.as_bytes.ensures.value ∙ c.in_ok-line.ensures) c.in_err-say.field-0.0 c.in_err-say.ensures (err_is _ _ c.from_residual-in_err-say.ensures.1))

pub loop-j-preserved : goal.loop-j-preserved
loop-j-preserved g c = λ b r more.
    c.loop-j.invariant b r (number_said (λ j. ended (doze_line j)) c.args.changes _ b r c.loop-j.j c.as_bytes.result.now (omega arith) (c.as_bytes.ensures.value ∙ c.in_ok-line.ensures) _ c.in_ok-say.ensures more)

pub returns : goal.returns
returns g c = c.loop-j.invariant _ _ (no_numbers (λ j. ended (doze_line j)) c.args.changes c.loop-j.j _ (omega arith))
