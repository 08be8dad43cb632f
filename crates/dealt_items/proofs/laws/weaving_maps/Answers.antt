use Rattle.dealt_items.proofs.Dealing.{woven-map}
use Rattle.dealt_items.proofs.laws.weaving_maps.Goals as goal

pub returns : goal.returns
returns g c = woven-map
