-- The fragment stands behind the old items.
use Rattle.arp_rules.proofs.Emitted.{link_emitted}
use Rattle.arp_rules.proofs.link.emit_link.Goals as goal

pub returns-clause-ok : goal.returns-clause-ok
returns-clause-ok c =
    link_emitted c.args.basis.now c.args.next.now c.args.out.now c.add_link.new.out
    c.in-Ok.ensures.ok c.in-Ok.ensures.fits
