-- Made captures: the made frames with a second each, in a file that is little-endian and has microseconds.
use Rattle.std.specs.Prelude.{ℕ, ◌+◌, false, List, ◌++◌, length}
use Rattle.std.specs.List.{flat_map, range_with_len}
use Rattle.pcap_files.specs.declared.kinds.Kind.{Kind}
use Rattle.pcap_files.specs.declared.kinds.Stamp.{Stamp}
use Rattle.pcap_files.specs.Writing.{head_bytes, record_bytes}
use Rattle.made_input.specs.MadeFrames.{made_frame}

-- little-endian, with microseconds
abbrev pub made_kind : Kind
made_kind = record { big = false; nano = false }

-- the kth frame comes at second 1000 + k, and is whole
abbrev pub made_stamp : ℕ → Stamp
made_stamp k = record { sec = 1000 + k; fraction = 0; original = length (made_frame k) }

-- the record of the kth frame
unfoldable pub made_record : ℕ → List ℕ
made_record k = record_bytes made_kind.big (made_stamp k) (made_frame k)

-- the made capture of n: the file header, and the records of the frames from 1 to n
unfoldable pub made_capture : ℕ → List ℕ
made_capture n = head_bytes made_kind ++ flat_map made_record (range_with_len 1 n)
