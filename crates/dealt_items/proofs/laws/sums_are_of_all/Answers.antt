use Rattle.dealt_items.proofs.Dealing.{sum-dealt}
use Rattle.dealt_items.proofs.laws.sums_are_of_all.Goals as goal

pub returns : goal.returns
returns g c = sum-dealt
