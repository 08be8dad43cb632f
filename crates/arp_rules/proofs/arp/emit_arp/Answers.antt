-- The fragment stands behind the old items.
use Rattle.std.proofs.Common.{◌+◌, refl}
use Rattle.arp_rules.proofs.Emitted.{arp_emitted}
use Rattle.arp_rules.proofs.arp.emit_arp.Goals as goal

pub returns-clause-ok : goal.returns-clause-ok
returns-clause-ok c =
    arp_emitted c.args.basis.now c.args.next.now (c.args.next.now + 2) c.args.out.now c.add_arp.new.out
    c.in-Ok.ensures.ok c.in-Ok.ensures.fits c.requires.low refl
