use Rattle.apf_asm.proofs.TextKnowing.{known_listed}
use Rattle.apf_asm.proofs.text_laws.first_words_are_listed.Goals as goal

pub returns : goal.returns
returns c = known_listed
