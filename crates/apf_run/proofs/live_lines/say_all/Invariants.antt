-- A call that goes on from here by the lines that are left has written all of them.
use Rattle.std.proofs.Common.{Result, map, drop}
use Rattle.command_plan.specs.declared.fault.Fault.{Fault}
use Rattle.command_plan.specs.Follows.{Sinking, Writes}
use Rattle.command_plan.specs.Plan.{says}
use Rattle.apf_run.proofs.live_lines.say_all.Given as goal

abbrev pub invariant-loop-line : goal.invariant-loop-line
invariant-loop-line g l = (b : Sinking) (r : Result (Unit {0}) Fault)
    → Writes (says (map (λ line. line) (drop l.line-index l.lines))) (g.O.Lines.seen l.out) b r
    → Writes (says (map (λ line. line) l.lines)) (g.O.Lines.seen l.fn.out) b r
