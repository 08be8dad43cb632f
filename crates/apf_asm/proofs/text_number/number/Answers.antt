use Rattle.apf_asm.proofs.TextNumbers.{Reads_from}
use Rattle.apf_asm.proofs.text_number.number.Goals as goal

pub returns : goal.returns
returns c = Reads_from c.read_decimal.result _ c.read_decimal.ensures.exact
