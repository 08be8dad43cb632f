use Rattle.dealt_items.proofs.Dealing.{dealt-at}
use Rattle.dealt_items.proofs.laws.dealt_in_turn.Goals as goal

pub returns : goal.returns
returns g c = dealt-at
