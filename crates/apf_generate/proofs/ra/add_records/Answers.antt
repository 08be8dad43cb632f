-- One more record at each turn.
use Rattle.apf_generate.proofs.Chosen.{none_added, next_added}
use Rattle.apf_generate.proofs.ra.add_records.Goals as goal

pub loop-one-init : goal.loop-one-init
loop-one-init c = none_added c.args.next.now c.args.out.now

pub loop-one-preserved : goal.loop-one-preserved
loop-one-preserved c =
    next_added c.args.chosen.now c.loop-one.one-index c.one-item.result c.one-item.result c.args.next.now c.loop-one.next c.emit_ra.new.next c.args.out.now c.loop-one.out c.emit_ra.new.out
    c.loop-one-test.true c.one-item.is c.requires.low c.loop-one.invariant c.in_ok-emit_ra.ensures.ok
