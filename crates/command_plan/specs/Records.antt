-- A capture that is open: what is known of it, and what is taken of it.
use Rattle.std.specs.Prelude.{◌≡◌, ⊤, ℕ, ◌+◌, List, length, Option, Some, IfSome, Result, IfOk}
use Rattle.pcap_files.specs.Capture.{capture}
use Rattle.pcap_files.specs.Stream.{Reader, BothTold, TakesIt, told, rest_of, first_handed, told_end, refused_file}
use Rattle.pcap_files.specs.declared.kinds.Stamp.{Stamp}
use Rattle.pcap_files.specs.declared.fault.PcapError.{PcapError}
use Rattle.pcap_files.specs.declared.fault.PcapError.TheVariants as captures
use Rattle.command_plan.specs.Amounts.{IsBehindHead}
use Rattle.command_plan.specs.declared.fault.Input.{Input}
use Rattle.command_plan.specs.declared.fault.Refusal.TheVariants.{BadCapture}
use Rattle.command_plan.specs.declared.fault.Fault.{Fault}
use Rattle.command_plan.specs.declared.fault.Fault.TheVariants.{Refused, OutOfMemory, Read, Open}

-- what a capture's fault is to a command
abbrev pub capture_fault : Input → PcapError → Fault
capture_fault input captures.Read = Read input
capture_fault input captures.OutOfMemory = OutOfMemory
capture_fault input fault = Refused (BadCapture fault)

-- A capture was opened: its reader gives what the file tells, of the bytes behind the header.
pub record HasOpened (bytes left : Option (List ℕ)) (reader : Reader) : Type 0 where
  pub telling : BothTold bytes left (λ all rest. told all ≡ rest_of reader rest)
  pub behind : IsBehindHead bytes left

-- how opening one fails: a header that is refused is the capture's first fault
abbrev pub OpeningFails : Input → Option (List ℕ) → Fault → Type 0
OpeningFails input bytes (Read which) = which ≡ input
OpeningFails input bytes (Open which) = which ≡ input
OpeningFails input bytes (Refused (BadCapture fault)) = IfSome bytes (λ all. capture all ≡ refused_file fault)
OpeningFails input bytes fault = ⊥

-- where a record was given, this holds of its stamp
abbrev pub IfGiven : Result (Option Stamp) Fault → (Stamp → Type 0) → Type 0
IfGiven result P = IfOk result (λ found. IfSome found P)

-- The next record was given: it is the first of what the reader still gave, exactly its bytes were taken, and the reader
-- stands behind it.
pub record HandsOut (old new : Reader) (left now : Option (List ℕ)) (frame : List ℕ) (stamp : Stamp) : Type 0 where
  pub telling : BothTold left now (λ bytes rest. rest_of old bytes ≡ first_handed (record { stamp = stamp; at = old.at; frame = frame }) (rest_of new rest))
  pub taken : TakesIt old left now frame stamp
  pub place : new.at ≡ old.at + (16 + length frame)

-- how taking the next one fails
abbrev pub NextFails : Input → Reader → Option (List ℕ) → Fault → Type 0
NextFails input old left OutOfMemory = ⊤
NextFails input old left (Read which) = which ≡ input
NextFails input old left (Refused (BadCapture fault)) = IfSome left (λ bytes. rest_of old bytes ≡ told_end (Some fault))
NextFails input old left fault = ⊥
