use Rattle.apf_check.proofs.Ending.{run-ends}
use Rattle.apf_check.proofs.laws.orderly_programs_end.Goals as goal

pub returns : goal.returns
returns c = run-ends
