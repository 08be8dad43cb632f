-- The fragment stands behind the old items.
use Rattle.std.proofs.Common.{[], refl}
use Rattle.ip_rules.specs.Ip4Listing.{keepalive_items}
use Rattle.ip_rules.proofs.KeepalivesEmitted.{keepalives_emitted}
use Rattle.ip_rules.proofs.Ip4Emitted.{ip4_emitted}
use Rattle.ip_rules.proofs.ip4.emit_ip4.Goals as goal

pub returns-clause-ok : goal.returns-clause-ok
returns-clause-ok c =
    let basis = c.args.basis.now in
    let next = c.args.next.now in
    let label = c.label_behind-label in
    let keepalives = keepalive_items next basis.state.keepalives in
    ip4_emitted basis next label.result [] keepalives c.args.out.now c.add_ip4.new.out refl c.requires.low
    (keepalives_emitted basis next label.result [] keepalives label.ensures.value c.requires.low label.ensures.few refl)
    c.in-Ok.ensures.mac c.in-Ok.ensures.address c.in-Ok.ensures.ok label.ensures.few
