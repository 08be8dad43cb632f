-- What is written to a capture file.
use Rattle.std.specs.Prelude.{◌≡◌, ℕ, ◌<◌, ◌^◌, Bool, true, false, List, [], ◌∷◌, ◌++◌, length, None, Some}
use Rattle.byteorder.specs.Endian.{big_bytes, little_bytes}
use Rattle.pcap_files.specs.declared.kinds.Kind.{Kind}
use Rattle.pcap_files.specs.declared.kinds.Stamp.{Stamp}
use Rattle.pcap_files.specs.declared.kinds.Placed.{Placed}
use Rattle.pcap_files.specs.declared.kinds.Records.{Records}
use Rattle.pcap_files.specs.Capture.{magic_of, capture, frames}
use Rattle.apf_base.specs.Limits.{frame_limit}

-- the n bytes of a number
abbrev pub bytes_of : Bool → ℕ → ℕ → List ℕ
bytes_of true n x = big_bytes n x
bytes_of false n x = little_bytes n x

-- a file header, with the zone 0, the accuracy 0, the snapshot length 262,144 and the link type 1
abbrev pub head_bytes : Kind → List ℕ
head_bytes kind =
    bytes_of kind.big 4 (magic_of kind.nano)
    ++ bytes_of kind.big 2 2 ++ bytes_of kind.big 2 4
    ++ bytes_of kind.big 4 0 ++ bytes_of kind.big 4 0 ++ bytes_of kind.big 4 frame_limit
    ++ bytes_of kind.big 4 1

-- a record
abbrev pub record_bytes : Bool → Stamp → List ℕ → List ℕ
record_bytes big stamp frame =
    bytes_of big 4 stamp.sec ++ bytes_of big 4 stamp.fraction ++ bytes_of big 4 (length frame) ++ bytes_of big 4 stamp.original
    ++ frame

-- each number of the stamp has four bytes
pub record IsStampInRange (stamp : Stamp) : Type 0 where
  pub sec : stamp.sec < 2 ^ 32
  pub fraction : stamp.fraction < 2 ^ 32
  pub original : stamp.original < 2 ^ 32

-- a capture of this kind without a fault, with this list of records
abbrev pub faultless : Kind → List Placed → Records
faultless kind list = record { kind = Some kind; list = list; end = None }

-- what is added to a capture of this kind without a fault is one record more with this stamp and this frame
pub record IsAdded (kind : Kind) (stamp : Stamp) (frame old new : List ℕ) : Type 0 where
  pub records : capture new ≡ faultless kind ((capture old).list ++ record { stamp = stamp; at = length old; len = length frame } ∷ [])
  pub frames : frames new ≡ frames old ++ frame ∷ []
