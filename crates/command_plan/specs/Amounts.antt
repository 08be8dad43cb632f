-- How much is taken of a capture at once.
use Rattle.std.specs.Prelude.{◌≡◌, ℕ, ⊤, Bool, true, false, List, drop, Option, Some, IfSome}
use Rattle.std.specs.Io.KnownBytes.{IsAtEnd}
use Rattle.pcap_files.specs.Capture.{capture}
use Rattle.pcap_files.specs.Stream.{TakesBytes}

-- a whole record of so many bytes; nothing, where none is left; or something of a record that is refused, or of a file
-- header that is
pub data Amount : Type 0 where
  whole_record : ℕ → Amount
  the_end : Amount
  a_fault : Amount

-- so much was taken, where the bytes that were left are told and those that are left now
abbrev pub IsTakenOf : Amount → Option (List ℕ) → Option (List ℕ) → Type 0
IsTakenOf (whole_record size) left now = TakesBytes size left now
IsTakenOf the_end left now = IsAtEnd now
IsTakenOf a_fault left now = ⊤

abbrev pub comes_to_end : Amount → Bool
comes_to_end (whole_record size) = false
comes_to_end the_end = true
comes_to_end a_fault = false

-- where a file's bytes are told and it is a capture, those behind its header are left
abbrev pub IsBehindHead : Option (List ℕ) → Option (List ℕ) → Type 0
IsBehindHead told left = IfSome told (λ bytes. IfSome (capture bytes).kind (λ kind. left ≡ Some (drop 24 bytes)))
