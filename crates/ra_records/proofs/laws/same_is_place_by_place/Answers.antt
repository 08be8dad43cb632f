use Rattle.ra_records.proofs.PlaceByPlace.{same-is}
use Rattle.ra_records.proofs.laws.same_is_place_by_place.Goals as goal

pub returns : goal.returns
returns c = same-is
