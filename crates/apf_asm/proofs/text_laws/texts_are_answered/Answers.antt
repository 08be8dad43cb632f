use Rattle.apf_asm.proofs.TextLaws.{text_read, text_again, text_refused, text_refused_again}
use Rattle.apf_asm.proofs.text_laws.texts_are_answered.Goals as goal

pub returns-clause-read : goal.returns-clause-read
returns-clause-read c text items = (text_read text items, text_again text items)

pub returns-clause-refused : goal.returns-clause-refused
returns-clause-refused c text line kind = (text_refused text line kind, text_refused_again text line kind)
