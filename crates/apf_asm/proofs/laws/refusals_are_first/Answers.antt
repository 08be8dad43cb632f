use Rattle.apf_asm.proofs.FirstRefusal.{refusal_first, first_refusal}
use Rattle.apf_asm.proofs.laws.refusals_are_first.Goals as goal

pub returns : goal.returns
returns c = λ xs e. (refusal_first xs e, first_refusal xs e)
