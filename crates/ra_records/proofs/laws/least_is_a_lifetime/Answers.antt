use Rattle.ra_records.proofs.Least.{least-one, least-below}
use Rattle.ra_records.proofs.laws.least_is_a_lifetime.Goals as goal

pub returns : goal.returns
returns c = record { one = least-one; bound = least-below }
