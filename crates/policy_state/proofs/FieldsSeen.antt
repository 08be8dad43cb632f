-- What an instruction loads is the field that a question reads.
use Rattle.std.proofs.Common.{◌≡◌, ℕ, ◌+◌, List, length, refl}
use Rattle.std.specs.Prelude.{nat_lt, if◌then◌else◌, slice_range, Some, None}
use Rattle.apf_coding.specs.Meaning.{frame_number}
use Rattle.apf_coding.specs.Run.{header_length as header_slot}
use Rattle.frame_views.specs.Fields.{field, part}
use Rattle.frame_views.specs.Packets.{header_length}

pub number_seen : (frame : List ℕ) (at width : ℕ) → frame_number frame at width ≡ field frame at width
unfolding field
number_seen frame at width = refl

pub bytes_seen : (frame : List ℕ) (at len : ℕ) → (if nat_lt (length frame) (at + len) then None else Some (slice_range frame at (at + len))) ≡ part frame at len
unfolding part
bytes_seen frame at len = refl

pub header_seen : (frame : List ℕ) → header_slot frame ≡ header_length frame
header_seen frame = refl
