use Rattle.std.proofs.Common.{List, ℕ, subst, ◌∙◌}
use Rattle.std.proofs.lemmas.Result.{on_err_weaker}
use Rattle.apf_base.specs.Streams.{AppendsFront}
use Rattle.command_plan.proofs.Stages.{part_front}
use Rattle.command_plan.proofs.complaint.write_number.Goals as goal

pub returns-clause-err : goal.returns-clause-err
returns-clause-err g c =
    let held = g.E.Sink.held c.args.err.now in
    let new = g.E.Sink.held c.write_all.new.sink in
    let digits = c.as_bytes.ensures.value ∙ c.format.ensures.text in
    on_err_weaker c.write_all.result (λ now. subst (λ (bytes : List ℕ). AppendsFront held new bytes) digits (part_front held new c.as_bytes.result.now now)) c.write_all.ensures.err
