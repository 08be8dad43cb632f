use Rattle.apf_asm.proofs.TextValues.{value_kept}
use Rattle.apf_asm.proofs.text_laws.signed_numbers_are_kept.Goals as goal

pub returns : goal.returns
returns c = value_kept
