use Rattle.dealt_items.proofs.Dealing.{woven-dealt}
use Rattle.dealt_items.proofs.laws.dealing_then_weaving_is_the_list.Goals as goal

pub returns : goal.returns
returns g c = woven-dealt
