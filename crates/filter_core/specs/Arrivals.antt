-- The records of a capture as the frames of a replay.
use Rattle.std.specs.Prelude.{ℕ, List, map}
use Rattle.filter_core.specs.Replay.{Arrival}
use Rattle.pcap_files.specs.Capture.{frame_of}
use Rattle.pcap_files.specs.declared.kinds.Placed.{Placed}

-- a record: the second of its stamp, and its frame
abbrev pub arrival_of : List ℕ → Placed → Arrival
arrival_of capture placed = record { second = placed.stamp.sec; frame = frame_of capture placed }

-- those of records of a capture
abbrev pub arrivals_of : List ℕ → List Placed → List Arrival
arrivals_of capture records = map (arrival_of capture) records

-- the frames of arrivals
abbrev pub frames_of : List Arrival → List (List ℕ)
frames_of arrivals = map (λ arrival. arrival.frame) arrivals
