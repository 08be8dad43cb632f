use Rattle.apf_check.proofs.Laying.{orderly}
use Rattle.apf_check.proofs.laws.orderly_bytes.Goals as goal

pub returns : goal.returns
returns c = orderly
