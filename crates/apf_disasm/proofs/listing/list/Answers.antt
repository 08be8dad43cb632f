-- A byte at which nothing begins is a line, and past the last byte the listing is whole.
use Rattle.std.proofs.Common.{arith}
use Rattle.apf_disasm.proofs.Entering.{byte_more, listed}
use Rattle.apf_disasm.proofs.Entries.{lines_readable}
use Rattle.apf_disasm.proofs.listing.list.Goals as goal

pub loop-at-preserved : goal.loop-at-preserved
loop-at-preserved c = record {
  listed = byte_more c.args.code.now c.loop-at.at c.loop-at.lines c.push-in-None.new.self c.loop-at.invariant.listed c.loop-at-test.true c.in-None.ensures.only c.in_ok-push-in-None.ensures.ok;
  within = omega arith;
}

pub returns : goal.returns
returns c =
    let whole = listed c.args.code.now c.loop-at.at c.loop-at.lines c.loop-at.invariant.listed (omega arith) in
    record { listing = whole; readable = lines_readable c.args.code.now c.loop-at.lines (λ i. omega (arith, c.type_inv.code i)) c.requires whole }
