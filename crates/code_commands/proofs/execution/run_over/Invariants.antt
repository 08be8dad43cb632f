-- A call that goes on from here by what is left has done all of it.
use Rattle.std.proofs.Common.{◌≤◌, ◌-◌, ℕ, List, Option, IsTrue}
use Rattle.pcap_files.specs.Stream.{Handed}
use Rattle.command_plan.specs.Follows.{stage}
use Rattle.command_plan.specs.Records.{HasOpened}
use Rattle.command_plan.proofs.Streaming.{GivenSo}
use Rattle.code_commands.proofs.Course.{GoesOn}
use Rattle.code_commands.proofs.execution.run_over.Given as goal

abbrev pub invariant-loop-frame : goal.invariant-loop-frame
invariant-loop-frame g l = record {
  so_far : (given : List Handed)
      × GoesOn l.program l.age l.number l.memory given (stage (g.H.Files.seen l.fn.shelf) (g.O.Lines.seen l.fn.out)) (stage (g.H.Files.seen l.shelf) (g.O.Lines.seen l.out))
      × ((bytes : Option (List ℕ)) → HasOpened bytes (g.H.Source.left l.fn.shelf) l.fn.reader → GivenSo bytes l.reader (g.H.Source.left l.shelf) given);
  live : IsTrue l.reader.live;
  few : l.number ≤ l.reader.at;
}

abbrev pub decreases-loop-frame : goal.decreases-loop-frame
decreases-loop-frame g l = 4294967296 - l.reader.at
