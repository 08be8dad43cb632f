use Rattle.std.proofs.Common.{◌+◌, ◌/◌, arith}
use Rattle.std.proofs.Math.Nat.{mod-add-div'}
use Rattle.dealt_items.proofs.Sharing.{length-share}
use Rattle.dealt_items.proofs.share.share_of.Goals as goal

pub returns-then-hand-items : goal.returns-then-hand-items
returns-then-hand-items c = λ xs long.
    let all = mod-add-div' c.args.items c.args.count in
    length-share c.args.count c.args.hand (c.args.items / c.args.count + 1) xs c.requires
    (omega (arith, all, long, c.if-hand-items.true)) (omega (arith, all, long, c.requires))

pub returns-else-hand-items : goal.returns-else-hand-items
returns-else-hand-items c = λ xs long.
    let all = mod-add-div' c.args.items c.args.count in
    length-share c.args.count c.args.hand (c.args.items / c.args.count) xs c.requires
    (omega (arith, all, long, c.requires)) (omega (arith, all, long, c.if-hand-items.false))
