-- Lines that are written as the records of a capture come in: a record is taken, its lines are written, and then the next.
use Rattle.std.specs.Prelude.{ℕ, ◌+◌, Bool, true, false, List, [], ◌∷◌, length, take, drop, Option, None, Some}
use Rattle.std.specs.Option.{option_map}
use Rattle.pcap_files.specs.Stream.{Handed}
use Rattle.pcap_files.specs.declared.fault.PcapError.{PcapError}
use Rattle.command_plan.specs.Amounts.{Amount, whole_record, the_end, a_fault}
use Rattle.command_plan.specs.Plan.{Plan, ◌>>=◌, Done, says, takes, unless}
use Rattle.command_plan.specs.declared.fault.Input.{Input}
use Rattle.command_plan.specs.declared.fault.Refusal.{Refusal}
use Rattle.command_plan.specs.declared.fault.Refusal.TheVariants.{BadCapture}

-- ---- how a capture ends

-- a capture is refused by its first fault
abbrev pub refusal_by : Option PcapError → Option Refusal
refusal_by fault = option_map BadCapture fault

abbrev pub is_whole : Option PcapError → Bool
is_whole None = true
is_whole (Some fault) = false

-- what is taken behind the last whole record
abbrev pub ending_amount : Option PcapError → Amount
ending_amount None = the_end
ending_amount (Some fault) = a_fault

-- ---- a record and its lines

-- the bytes of a record, and how many lines it has
pub record Share : Type 0 where
  pub size : ℕ
  pub count : ℕ

-- a record with so many lines
abbrev pub share_of : ℕ → Handed → Share
share_of count handed = record { size = 16 + length handed.frame; count = count }

-- The records are taken one after another, and behind each its lines are written, which are the next ones of these. It
-- goes on with the lines that are left.
unfoldable pub weaves : Input → List Share → List (List ℕ) → Plan (List (List ℕ))
weaves input [] lines = Done lines
weaves input (share ∷ shares) lines = do
  _ ← takes input (whole_record share.size)
  _ ← says (take share.count lines)
  weaves input shares (drop share.count lines)

-- The same to the end: behind the last record come the lines that are left, and the capture is refused by its fault.
abbrev pub weaves_all : Input → Option PcapError → List Share → List (List ℕ) → Plan (Unit {0})
weaves_all input end shares lines = do
  last ← weaves input shares lines
  _ ← takes input (ending_amount end)
  _ ← says last
  unless (refusal_by end)
