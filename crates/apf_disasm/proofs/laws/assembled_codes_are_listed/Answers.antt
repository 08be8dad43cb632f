use Rattle.apf_disasm.proofs.Relisted.{assembled_listed}
use Rattle.apf_disasm.proofs.laws.assembled_codes_are_listed.Goals as goal

pub returns : goal.returns
returns c = assembled_listed
