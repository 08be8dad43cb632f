use Rattle.std.proofs.Common.{◌≡◌, ◌≤◌, ◌++◌, List, ℕ, map, drop}
use Rattle.std.specs.List.{concat}
use Rattle.std.specs.Io.KnownBytes.{Appends}
use Rattle.command_plan.proofs.complaint.write_parts.Given as goal

abbrev pub invariant-loop-part : goal.invariant-loop-part
invariant-loop-part g l = record {
  written : (done : List ℕ) × Appends (g.E.Sink.held l.fn.err) (g.E.Sink.held l.err) done
      × (concat (map (λ part. part.now) l.parts) ≡ done ++ concat (map (λ part. part.now) (drop l.part-index l.parts)));
  faults : g.E.Sink.faults l.fn.err ≤ g.E.Sink.faults l.err;
}
