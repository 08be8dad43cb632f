use Rattle.apf_generate.proofs.Existing.{program_exists}
use Rattle.apf_generate.proofs.laws.programs_exist.Goals as goal

pub returns : goal.returns
returns c = program_exists
