use Rattle.std.proofs.Common.{ap, length, arith}
use Rattle.apf_asm.proofs.Spaced.{length-item_widths}
use Rattle.apf_asm.proofs.Emitted.{length-item_offsets, reads, emitted_more, emitted_short, emitted_end}
use Rattle.apf_asm.proofs.emitting.emit.Goals as goal

pub bounds-widths-number : goal.bounds-widths-number
bounds-widths-number c = omega (arith, ap length c.requires.widths, length-item_widths c.args.items.now)

pub bounds-offsets-number : goal.bounds-offsets-number
bounds-offsets-number c = omega (arith, ap length c.requires.offsets, length-item_offsets c.args.items.now)

pub overflow_cast-offsets : goal.overflow_cast-offsets
overflow_cast-offsets c =
    let q = c.requires in
    omega (arith, (reads c.args.items.now c.loop-number.number c.index-items-number.result c.args.widths.now c.args.offsets.now q.forms q.widths q.offsets q.short c.loop-number-test.true c.index-items-number.is).small)

pub append-requires-clause-fit : goal.append-requires-clause-fit
append-requires-clause-fit c =
    let q = c.requires in
    (reads c.args.items.now c.loop-number.number c.index-items-number.result c.args.widths.now c.args.offsets.now q.forms q.widths q.offsets q.short c.loop-number-test.true c.index-items-number.is).fit

pub append-requires-clause-short : goal.append-requires-clause-short
append-requires-clause-short c = emitted_short c.args.items.now c.loop-number.number _ c.loop-number.code.places c.loop-number.code.widths c.loop-number.invariant c.requires.short

pub loop-number-preserved : goal.loop-number-preserved
loop-number-preserved c =
    let q = c.requires in
    let r = reads c.args.items.now c.loop-number.number c.index-items-number.result c.args.widths.now c.args.offsets.now q.forms q.widths q.offsets q.short c.loop-number-test.true c.index-items-number.is in
    emitted_more c.args.items.now c.loop-number.number c.index-items-number.result _ _ _ _ _ _ _ _ c.loop-number-test.true c.index-items-number.is r c.loop-number.invariant c.in_ok-append.ensures.bytes c.in_ok-append.ensures.places c.in_ok-append.ensures.widths

pub returns-clause-bytes : goal.returns-clause-bytes
returns-clause-bytes c = (emitted_end c.args.items.now c.loop-number.number _ _ _ c.loop-number-test.false c.loop-number.invariant).bytes

pub returns-clause-places : goal.returns-clause-places
returns-clause-places c = (emitted_end c.args.items.now c.loop-number.number _ _ _ c.loop-number-test.false c.loop-number.invariant).places

pub returns-clause-widths : goal.returns-clause-widths
returns-clause-widths c = (emitted_end c.args.items.now c.loop-number.number _ _ _ c.loop-number-test.false c.loop-number.invariant).widths
