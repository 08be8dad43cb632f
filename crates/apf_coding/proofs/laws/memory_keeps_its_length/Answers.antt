use Rattle.apf_coding.proofs.Lengths.{run-keeps}
use Rattle.apf_coding.proofs.laws.memory_keeps_its_length.Goals as goal

pub returns : goal.returns
returns c = run-keeps
