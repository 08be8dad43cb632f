-- A call that goes on from here by the pieces that are left has written all of them.
use Rattle.std.proofs.Common.{Result, map}
use Rattle.std.specs.List.{range_with_len}
use Rattle.made_input.specs.MadeCaptures.{made_record}
use Rattle.command_plan.specs.declared.fault.Fault.{Fault}
use Rattle.command_plan.specs.Follows.{Sinking, Writes}
use Rattle.command_plan.specs.Plan.{says}
use Rattle.apf_run.proofs.Counted.{From}
use Rattle.apf_run.proofs.make.write_records.Given as goal

abbrev pub invariant-loop-k : goal.invariant-loop-k
invariant-loop-k g l = (b : Sinking) (r : Result (Unit {0}) Fault)
    → Writes (says (From (made_record) l.n l.k)) (g.O.Lines.seen l.out) b r
    → Writes (says (map (made_record) (range_with_len 1 l.n))) (g.O.Lines.seen l.fn.out) b r
