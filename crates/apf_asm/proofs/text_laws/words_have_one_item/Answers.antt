use Rattle.apf_asm.proofs.TextLaws.{one_item}
use Rattle.apf_asm.proofs.text_laws.words_have_one_item.Goals as goal

pub returns-clause-one : goal.returns-clause-one
returns-clause-one c = one_item
