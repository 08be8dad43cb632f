-- The fragment stands behind the old items.
use Rattle.std.proofs.Common.{◌+◌, refl}
use Rattle.ip_rules.proofs.Ip6Emitted.{ip6_emitted}
use Rattle.ip_rules.proofs.ip6.emit_ip6.Goals as goal

pub returns-clause-ok : goal.returns-clause-ok
returns-clause-ok c =
    ip6_emitted c.args.basis.now c.args.next.now (c.args.next.now + 3) c.args.out.now c.add_ip6.new.out c.in-Ok.ensures.ok c.requires.low refl
