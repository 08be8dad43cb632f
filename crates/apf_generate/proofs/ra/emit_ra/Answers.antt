-- The fragment stands behind the old items.
use Rattle.std.proofs.Common.{◌+◌, refl}
use Rattle.apf_generate.proofs.RaForm.{ra_emitted}
use Rattle.apf_generate.proofs.ra.emit_ra.Goals as goal

pub returns-clause-ok : goal.returns-clause-ok
returns-clause-ok c =
    ra_emitted c.args.chosen.now c.args.next.now (c.args.next.now + 1) c.args.out.now c.add_ra.new.out
    c.in-Ok.ensures.ok c.in-Ok.ensures.hold c.in-Ok.ensures.bytes c.in-Ok.ensures.sound c.requires.low refl
