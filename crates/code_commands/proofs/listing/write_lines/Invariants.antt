-- A call that goes on from here by the lines that are left has written all of them.
use Rattle.std.proofs.Common.{Result, map, drop}
use Rattle.apf_disasm.specs.Listing.{entry_of}
use Rattle.apf_disasm.specs.Printing.{line_text}
use Rattle.command_plan.specs.declared.fault.Fault.{Fault}
use Rattle.command_plan.specs.Follows.{Sinking, Writes}
use Rattle.command_plan.specs.Plan.{says}
use Rattle.code_commands.proofs.listing.write_lines.Given as goal

abbrev pub invariant-loop-line : goal.invariant-loop-line
invariant-loop-line g l = (b : Sinking) (r : Result (Unit {0}) Fault)
    → Writes (says (map (λ line. line_text (entry_of line)) (drop l.line-index l.lines))) (g.O.Lines.seen l.out) b r
    → Writes (says (map (λ line. line_text (entry_of line)) l.lines)) (g.O.Lines.seen l.fn.out) b r
