-- A replay whose frames come in as the records of a capture are taken: each record has its lines.
use Rattle.std.specs.Prelude.{ℕ, ◌-◌, ◌≤◌, List, [], ◌∷◌, length, map, Option, None, Some}
use Rattle.apf_generate.specs.Ranges.{IsScript}
use Rattle.pcap_files.specs.Stream.{Handed, Told}
use Rattle.pcap_files.specs.declared.fault.PcapError.{PcapError}
use Rattle.policy_state.specs.States.{start}
use Rattle.policy_state.specs.declared.basis.Script.{Script}
use Rattle.size_fit.specs.Sizes.{base, limit_of}
use Rattle.filter_core.specs.Replay.{Arrival, Course, begun, after_arrival}
use Rattle.command_plan.specs.Plan.{Plan, ◌>>=◌, picks}
use Rattle.command_plan.specs.Weaving.{Share, share_of, weaves_all}
use Rattle.command_plan.specs.declared.fault.Input.{Input}
use Rattle.filter_report.specs.Along.{Reporting, InCourse}
use Rattle.filter_report.specs.Report.{IsReport, IsStory}

-- ---- records as frames of a replay

-- a record that was handed out: the second of its stamp, and its frame
abbrev pub arrival_told : Handed → Arrival
arrival_told handed = record { second = handed.stamp.sec; frame = handed.frame }

abbrev pub arrivals_told : List Handed → List Arrival
arrivals_told list = map arrival_told list

-- Each record with how many lines it has: those of the events that are due before its frame, and the frame's own.
unfoldable pub record_shares : Course → List Handed → List Share
record_shares c [] = []
record_shares c (handed ∷ list) =
    let next = after_arrival c (arrival_told handed) in
    share_of (length next.told - length c.told) handed ∷ record_shares next list

-- ---- the lines

-- Of a script and a capture: the report; where the capture has a fault, the lines up to its last whole record.
abbrev pub TellsAll : Option PcapError → Script → List Arrival → List (List ℕ) → Type 0
TellsAll None script arrivals lines = IsReport script arrivals lines
TellsAll (Some fault) script arrivals lines = IsStory script arrivals lines

abbrev pub IsReplayed : Script → Told → List (List ℕ) → Type 0
IsReplayed script found lines = TellsAll found.end script (arrivals_told found.list) lines

-- the lines behind the first one, as the records come in
abbrev pub replays : Input → Script → List ℕ → Told → Plan (Unit {0})
replays input script line found = do
  more ← picks (λ more. IsReplayed script found (line ∷ more))
  weaves_all input found.end (record_shares (begun script) found.list) more

-- ---- the start

-- a filter that has made the first install of a script, and written these lines
pub record HasBegun (script : Script) (f : Reporting) (lines : List (List ℕ)) : Type 0 where
  pub sound : IsScript script
  pub fits : base script.config start ≤ limit_of script.config
  pub course : InCourse (begun script) f [] lines
