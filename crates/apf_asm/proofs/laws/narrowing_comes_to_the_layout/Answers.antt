use Rattle.apf_asm.proofs.Narrowing.{rounds_same, rounds_end}
use Rattle.apf_asm.proofs.laws.narrowing_comes_to_the_layout.Goals as goal

pub returns-clause-still : goal.returns-clause-still
returns-clause-still c = rounds_same

pub returns-clause-ends : goal.returns-clause-ends
returns-clause-ends c = rounds_end
