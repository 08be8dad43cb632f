-- The records so far were taken one after another, each with its lines.
use Rattle.std.proofs.Common.{◌≤◌, ◌+◌, ◌-◌, ◌*◌, ℕ, List, [], ◌∷◌, Option, IsTrue}
use Rattle.policy_state.specs.declared.basis.Script.{Script}
use Rattle.command_plan.specs.Records.{HasOpened}
use Rattle.filter_report.specs.Streaming.{HasBegun}
use Rattle.filter_report.proofs.Woven.{TakenSo, stage_at}
use Rattle.filter_report.proofs.replaying.replay.Given as goal

abbrev pub invariant-records : goal.invariant-records
invariant-records g l =
    let at = stage_at g.H.Source.file g.H.Source.left g.H.Source.faults g.H.Source.misses g.O.Sink.held g.O.Sink.faults in
    record {
      so_far : (script : Script) (line : List ℕ) (bytes : Option (List ℕ)) → HasBegun script l.fn.filtering (line ∷ []) → HasOpened bytes (g.H.Source.left l.fn.shelf) l.fn.reader
          → TakenSo l.input script line bytes l.filtering l.reader (at l.fn.shelf l.fn.out) (at l.shelf l.out);
      live : IsTrue l.reader.live;
      few : 24 + 16 * l.filtering.frames ≤ l.reader.at;
      inside : l.reader.at ≤ 4294967295;
    }

abbrev pub decreases-records : goal.decreases-records
decreases-records g l = 4294967296 - l.reader.at
