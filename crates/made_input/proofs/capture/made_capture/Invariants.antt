-- The frames below this number were written.
use Rattle.std.proofs.Common.{◌≡◌, ◌-◌, ◌++◌}
use Rattle.std.specs.List.{flat_map, range_with_len}
use Rattle.pcap_files.specs.Writing.{head_bytes}
use Rattle.made_input.specs.MadeCaptures.{made_kind, made_record}
use Rattle.made_input.proofs.capture.made_capture.Given as goal

abbrev pub invariant-loop-k : goal.invariant-loop-k
invariant-loop-k l = l.bytes ≡ head_bytes made_kind ++ flat_map made_record (range_with_len 1 (l.k - 1))
