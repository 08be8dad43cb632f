-- One instruction after another.
use Rattle.apf_coding.specs.Instruction.{view}
use Rattle.apf_check.specs.Marks.{is_marked}
use Rattle.apf_check.proofs.Search.{found_flaw, found_none, found_end}
use Rattle.apf_check.proofs.judging.first_flaw.Goals as goal

pub returns-in-Some-flaw_of : goal.returns-in-Some-flaw_of
returns-in-Some-flaw_of c parts s =
    found_flaw c.args.code.now (is_marked c.args.marks.now) parts _ c.loop-instr.at c.in-Some.end (view c.in-Some.instr) c.in-Some-flaw_of.flaw
    c.requires.size c.in-Some.ensures.found c.in-Some-flaw_of.ensures (c.loop-instr.invariant.left parts s)

pub loop-instr-preserved : goal.loop-instr-preserved
loop-instr-preserved c = record {
  left = λ parts s. found_none c.args.code.now (is_marked c.args.marks.now) parts _ c.loop-instr.at c.in-Some.end (view c.in-Some.instr)
      c.requires.size c.in-Some.ensures.found c.in_default-flaw_of.ensures (c.loop-instr.invariant.left parts s);
  within = c.in-Some.ensures.found.within;
}

pub returns : goal.returns
returns c parts s = found_end c.args.code.now (is_marked c.args.marks.now) parts c.loop-instr.at c.in_default.ensures.exact (c.loop-instr.invariant.left parts s)
