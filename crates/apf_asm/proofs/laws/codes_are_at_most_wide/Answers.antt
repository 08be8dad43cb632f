use Rattle.apf_asm.proofs.Narrowing.{length-code-le}
use Rattle.apf_asm.proofs.laws.codes_are_at_most_wide.Goals as goal

pub returns : goal.returns
returns c = length-code-le
