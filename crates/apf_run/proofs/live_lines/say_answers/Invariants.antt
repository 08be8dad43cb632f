-- A call that goes on from here by the lines that are left has written all of them.
use Rattle.std.proofs.Common.{Result, ◌+◌, drop}
use Rattle.command_plan.specs.declared.fault.Fault.{Fault}
use Rattle.command_plan.specs.Follows.{Sinking, Writes}
use Rattle.command_plan.specs.Plan.{says}
use Rattle.filter_report.specs.Live.{lane_lines}
use Rattle.apf_run.proofs.live_lines.say_answers.Given as goal

abbrev pub invariant-loop-index : goal.invariant-loop-index
invariant-loop-index g l = (b : Sinking) (r : Result (Unit {0}) Fault)
    → Writes (says (lane_lines l.lanes (l.index + 1) (drop l.index l.answers))) (g.O.Lines.seen l.out) b r
    → Writes (says (lane_lines l.lanes 1 l.answers)) (g.O.Lines.seen l.fn.out) b r
