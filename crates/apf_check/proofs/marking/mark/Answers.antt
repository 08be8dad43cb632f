-- One more instruction stands, and its place is marked.
use Rattle.std.proofs.Common.{arith, rules}
use Rattle.apf_coding.specs.Instruction.{view}
use Rattle.apf_check.proofs.Marked.{one_more}
use Rattle.apf_check.proofs.marking.mark.Goals as goal

pub loop-end-preserved : goal.loop-end-preserved
loop-end-preserved c =
    let b = c.in-Some.ensures.found in
    let order = b.order in
    let within = b.within in
    let size = c.loop-end.invariant.size in
    let few = c.loop-end.invariant.few in
    record {
      marked = one_more c.args.code.now c.loop-end.marks c.loop-end.count c.loop-end.at c.in-Some.end (view c.in-Some.field-0-0) (omega arith) b c.loop-end.invariant.marked;
      within = within;
      few = omega arith;
      size = search rules;
    }
