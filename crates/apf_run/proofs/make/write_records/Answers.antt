use Rattle.std.proofs.Common.{◌∙◌, arith}
use Rattle.made_input.specs.MadeCaptures.{made_record}
use Rattle.command_plan.proofs.Following.{err_is}
use Rattle.command_plan.proofs.Saying.{says_lack}
use Rattle.apf_run.proofs.Counted.{all_numbers, number_said, number_unsaid, no_numbers}
use Rattle.apf_run.proofs.make.write_records.Goals as goal

pub loop-k-init : goal.loop-k-init
loop-k-init g c = λ b r h. all_numbers (made_record) c.args.n _ b r h

pub returns-in_err-record : goal.returns-in_err-record
returns-in_err-record g c = c.loop-k.invariant _ _ (says_lack _ _ _ c.from_residual.ensures.1)

pub returns-in_err-say : goal.returns-in_err-say
returns-in_err-say g c =
    c.loop-k.invariant _ _
    (number_unsaid (made_record) c.args.n _ _ _ c.loop-k.k c.as_slice.result.now (omega arith) (c.as_slice.ensures ∙ c.in_ok-record.ensures) c.in_err-say.field-0.0 c.in_err-say.ensures (err_is _ _ c.from_residual-in_err-say.ensures.1))

pub loop-k-preserved : goal.loop-k-preserved
loop-k-preserved g c = λ b r more.
    c.loop-k.invariant b r (number_said (made_record) c.args.n _ b r c.loop-k.k c.as_slice.result.now (omega arith) (c.as_slice.ensures ∙ c.in_ok-record.ensures) _ c.in_ok-say.ensures more)

pub returns : goal.returns
returns g c = c.loop-k.invariant _ _ (no_numbers (made_record) c.args.n c.loop-k.k _ (omega arith))
