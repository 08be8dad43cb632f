use Rattle.std.proofs.Common.{arith}
use Rattle.dealt_items.proofs.Sharing.{most-first}
use Rattle.dealt_items.proofs.share.most_of.Goals as goal

pub returns-clause-most : goal.returns-clause-most
returns-clause-most c = λ hand xs lt long. omega (arith, most-first c.args.count hand xs lt, c.share_of.ensures xs long)
