use Rattle.std.proofs.Common.{◌≡◌, ◌≤◌, ◌+◌, ◌++◌, List, ℕ, take, fold, map}
use Rattle.filter_core.specs.Replay.{Course, after_arrival}
use Rattle.pcap_files.specs.Capture.{frame_of}
use Rattle.filter_report.specs.Along.{InCourse}
use Rattle.filter_core.specs.Arrivals.{arrivals_of}
use Rattle.filter_report.specs.Lines.{Adds}
use Rattle.filter_report.proofs.filtering.Filtering.take_all.Given as goal

abbrev pub invariant-loop-placed : goal.invariant-loop-placed
invariant-loop-placed g l = record {
  written : (c : Course) (frames : List (List ℕ))
      → Adds (InCourse c l.fn.self frames) (InCourse (fold after_arrival c (arrivals_of l.capture (take l.placed-index l.records))) l.self (frames ++ map (frame_of l.capture) (take l.placed-index l.records)))
      (g.O.Sink.held l.fn.out) (g.O.Sink.held l.out);
  count : l.self.frames ≡ l.fn.self.frames + l.placed-index;
  faults : g.O.Sink.faults l.fn.out ≤ g.O.Sink.faults l.out;
}
