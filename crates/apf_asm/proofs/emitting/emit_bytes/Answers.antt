use Rattle.std.proofs.Common.{ap, length, arith}
use Rattle.apf_asm.proofs.Spaced.{length-item_widths}
use Rattle.apf_asm.proofs.Emitted.{length-item_offsets, reads, bytes_more, bytes_end}
use Rattle.apf_asm.proofs.emitting.emit_bytes.Goals as goal

pub bounds-widths-number : goal.bounds-widths-number
bounds-widths-number c = omega (arith, ap length c.requires.widths, length-item_widths c.args.items.now)

pub bounds-offsets-number : goal.bounds-offsets-number
bounds-offsets-number c = omega (arith, ap length c.requires.offsets, length-item_offsets c.args.items.now)

pub overflow_cast-offsets : goal.overflow_cast-offsets
overflow_cast-offsets c =
    let q = c.requires in
    omega (arith, (reads c.args.items.now c.loop-number.number c.index-items-number.result c.args.widths.now c.args.offsets.now q.forms q.widths q.offsets q.short c.loop-number-test.true c.index-items-number.is).small)

pub append_piece-requires : goal.append_piece-requires
append_piece-requires c =
    let q = c.requires in
    (reads c.args.items.now c.loop-number.number c.index-items-number.result c.args.widths.now c.args.offsets.now q.forms q.widths q.offsets q.short c.loop-number-test.true c.index-items-number.is).fit

pub loop-number-preserved : goal.loop-number-preserved
loop-number-preserved c =
    let q = c.requires in
    let r = reads c.args.items.now c.loop-number.number c.index-items-number.result c.args.widths.now c.args.offsets.now q.forms q.widths q.offsets q.short c.loop-number-test.true c.index-items-number.is in
    bytes_more c.args.items.now c.loop-number.number c.index-items-number.result _ _ _ _ c.loop-number-test.true c.index-items-number.is r c.loop-number.invariant c.in_ok-append_piece.ensures

pub returns : goal.returns
returns c = bytes_end c.args.items.now c.loop-number.number _ c.loop-number-test.false c.loop-number.invariant
