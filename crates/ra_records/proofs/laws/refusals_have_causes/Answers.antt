use Rattle.ra_records.proofs.Refusing.{refusals}
use Rattle.ra_records.proofs.laws.refusals_have_causes.Goals as goal

pub returns : goal.returns
returns c = refusals
