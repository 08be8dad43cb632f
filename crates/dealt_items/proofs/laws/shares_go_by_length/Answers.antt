use Rattle.dealt_items.proofs.Sharing.{length-every}
use Rattle.dealt_items.proofs.laws.shares_go_by_length.Goals as goal

pub returns : goal.returns
returns g c = length-every
