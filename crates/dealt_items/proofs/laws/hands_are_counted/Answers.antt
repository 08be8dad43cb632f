use Rattle.dealt_items.proofs.Dealing.{length-dealt}
use Rattle.dealt_items.proofs.laws.hands_are_counted.Goals as goal

pub returns : goal.returns
returns g c = length-dealt
