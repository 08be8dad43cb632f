use Rattle.std.proofs.Common.{[], ◌∷◌, ◌∙◌}
use Rattle.command_plan.proofs.Following.{err_is}
use Rattle.command_plan.proofs.Saying.{says_more, says_broken}
use Rattle.pcap_files.specs.Writing.{head_bytes}
use Rattle.made_input.specs.MadeCaptures.{made_kind}
use Rattle.apf_run.proofs.Counted.{line_as}
use Rattle.apf_run.proofs.make.write_capture.Goals as goal

pub returns-in_err-say : goal.returns-in_err-say
returns-in_err-say g c =
    says_broken _ _ (head_bytes made_kind ∷ []) _ _ c.in_err-say.field-0.0
    (line_as _ _ _ _ _ (c.as_slice.ensures ∙ c.in_ok-head.ensures) c.in_err-say.ensures) (err_is _ _ c.from_residual-in_err-say.ensures.1)

pub returns : goal.returns
returns g c =
    says_more _ _ (head_bytes made_kind ∷ []) _ _ _
    (line_as _ _ _ _ _ (c.as_slice.ensures ∙ c.in_ok-head.ensures) c.in_ok-say.ensures) c.write_records.ensures
