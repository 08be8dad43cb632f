-- A call that goes on from here by the pieces that are left has written all of them.
use Rattle.std.proofs.Common.{Result, map}
use Rattle.std.specs.List.{range_with_len}
use Rattle.made_input.specs.MadeScripts.{doze_line, ended}
use Rattle.command_plan.specs.declared.fault.Fault.{Fault}
use Rattle.command_plan.specs.Follows.{Sinking, Writes}
use Rattle.command_plan.specs.Plan.{says}
use Rattle.apf_run.proofs.Counted.{From}
use Rattle.apf_run.proofs.make.write_changes.Given as goal

abbrev pub invariant-loop-j : goal.invariant-loop-j
invariant-loop-j g l = (b : Sinking) (r : Result (Unit {0}) Fault)
    → Writes (says (From (λ j. ended (doze_line j)) l.changes l.j)) (g.O.Lines.seen l.out) b r
    → Writes (says (map (λ j. ended (doze_line j)) (range_with_len 1 l.changes))) (g.O.Lines.seen l.fn.out) b r
