-- The fragment stands behind the old items, and there is none without a keepalive.
use Rattle.ip_rules.proofs.KeepalivesEmitted.{keepalives_emitted}
use Rattle.ip_rules.proofs.keepalives.emit_keepalives.Goals as goal

pub returns-clause-ok : goal.returns-clause-ok
returns-clause-ok c =
    keepalives_emitted c.args.basis.now c.args.next.now c.label_behind.result c.args.out.now c.add_keepalives.new.out
    c.label_behind.ensures.value c.requires.low c.label_behind.ensures.few c.in-Ok.ensures.ok
