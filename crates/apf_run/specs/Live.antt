-- `live`: the report of a script over a capture whose frames lanes answer, beside the installs of the script.
use Rattle.std.specs.Prelude.{◌≡◌, ◌⊎◌, ◌≤◌, ◌-◌, ℕ, List, [], ◌∷◌, length, replicate, nat_le, codes, if◌then◌else◌, Option, None, Some, IfSome}
use Rattle.logbook.specs.Pages.{Book}
use Rattle.apf_base.specs.Causes.{Rose}
use Rattle.apf_base.specs.Streams.{AppendsAll}
use Rattle.apf_coding.specs.Reading as reading
use Rattle.plain_text.specs.Numbers.{number_within}
use Rattle.command_line.specs.Lines.{Line, Further, one, two, three, four, split_of}
use Rattle.command_plan.specs.Files.{input}
use Rattle.command_plan.specs.Meaning.{CommandMeaning, nothing, command, named, spelled}
use Rattle.command_plan.specs.Plan.{Plan, ◌>>=◌, asks, picks, says, runs_lanes, unless}
use Rattle.command_plan.specs.declared.fault.Fault.{Fault}
use Rattle.command_plan.specs.declared.fault.Fault.TheVariants as faults
use Rattle.command_plan.specs.declared.fault.FileKind.TheVariants as files
use Rattle.command_plan.specs.declared.fault.Refusal.{Refusal}
use Rattle.command_plan.specs.declared.fault.Refusal.TheVariants.{BadCapture}
use Rattle.dealt_items.specs.Dealing.{dealt, every}
use Rattle.filter_core.specs.Arrivals.{arrivals_of}
use Rattle.filter_core.specs.declared.install.Install.{Install}
use Rattle.filter_report.specs.Live.{IsLive}
use Rattle.pcap_files.specs.Capture.{capture}
use Rattle.pcap_files.specs.declared.fault.PcapError.{PcapError}
use Rattle.policy_state.specs.declared.basis.Script.{Script}
use Rattle.program_swap.specs.Again.{AllKeepNamed}
use Rattle.program_swap.specs.Driving.{HaveAnswered}
use Rattle.program_swap.specs.Histories.{InstallerState, live_installer}
use Rattle.program_swap.specs.Lanes.{fresh_lane}
use Rattle.program_swap.specs.Order.{EndState, LaneState}
use Rattle.script_text.specs.Scripts.{IsScriptText}
use Rattle.apf_run.specs.Filter.{reads_script, script_refusal}

-- ---- the words

-- 1 to 16
abbrev pub lanes_of : List ℕ → Option ℕ
lanes_of word = reading.◌>>=◌ (number_within 16 word) (λ n. if nat_le 1 n then Some n else None)

-- ---- the plan

-- the first fault of a capture, which is read and checked whole before anything is written
abbrev pub capture_refusal : Option PcapError → Option Refusal
capture_refusal None = None
capture_refusal (Some fault) = Some (BadCapture fault)

-- lanes run, and then all lines are written
abbrev pub lives : Script → List ℕ → ℕ → Plan (Unit {0})
lives script bytes lanes = do
  _ ← runs_lanes
  lines ← picks (IsLive script (arrivals_of bytes (capture bytes).list) lanes)
  says lines

-- the first install of a script is to fit, then its capture is read and checked
abbrev pub lives_over : Script → List ℕ → ℕ → Plan (Unit {0})
lives_over script path lanes = do
  _ ← unless (script_refusal script)
  bytes ← asks (input files.Capture 2) path
  _ ← unless (capture_refusal (capture bytes).end)
  lives script bytes lanes

-- `live SCRIPT CAPTURE LANES`
abbrev pub live_plan : List ℕ → List ℕ → ℕ → Plan (Unit {0})
live_plan script path lanes = do
  text ← asks (input files.Script 1) script
  read ← reads_script text
  lives_over read path lanes

-- ---- what words mean to the call that serves `live` alone

abbrev pub live_meaning : List ℕ → List ℕ → List ℕ → CommandMeaning
live_meaning script path lanes = spelled (lanes_of lanes) (λ n. command (live_plan script path n))

abbrev pub live_by : List ℕ → Further → CommandMeaning
live_by name (one a) = nothing
live_by name (two a b) = nothing
live_by name (three a b c) = named name (codes "live") (live_meaning a b c) nothing
live_by name (four a b c d) = nothing

abbrev pub live_for : Option Line → CommandMeaning
live_for None = nothing
live_for (Some line) = live_by line.name line.further

abbrev pub live_words_meaning : List (List ℕ) → CommandMeaning
live_words_meaning words = live_for (split_of words)

-- ---- what comes of lanes

-- want of memory, or a board's refusal, of which there were more then
abbrev pub IsOfBoard : ℕ → ℕ → Fault → Type 0
IsOfBoard old new fault = (fault ≡ faults.OutOfMemory) ⊎ ((fault ≡ faults.Board) × Rose old new)

-- a board that shows this install alone, and its lanes, each with room for its share of so many frames
pub record IsBoard (first : Install) (lanes frames : ℕ) (installer : InstallerState) (all : List LaneState) : Type 0 where
  pub room : ℕ
  pub shows : installer ≡ live_installer installer.board (first ∷ [])
  pub are : all ≡ replicate lanes (fresh_lane installer.board (first ∷ []) room)
  pub fits : (xs : List ℕ) → length xs ≡ frames → length (every 0 (lanes - 1) xs) ≤ room

-- Of a text and a capture, the report of a live run with so many lanes was written, and nothing else; and these ends are
-- what the lanes left: one end a lane, all of one board, each with an answer for each frame of its share, and each of which
-- begins with the installs of the script. What stands for a frame in the report is the answer that the end of its lane keeps
-- for it, where that names an install of the script.
pub record HasLived (text bytes : List ℕ) (lanes : ℕ) (ends : List EndState) (old new : Option (List ℕ)) : Type 0 where
  pub script : Script
  pub is : IsScriptText text script
  pub lines : List (List ℕ)
  pub live : IsLive script (arrivals_of bytes (capture bytes).list) lanes lines
  pub appends : AppendsAll old new lines
  pub board : Book
  pub answered : HaveAnswered board live.installs (dealt lanes (arrivals_of bytes (capture bytes).list)) ends
  pub kept : AllKeepNamed (length live.installs) ends live.answers

-- the same by the words behind the command's name, where its files may be told
abbrev pub HasLivedBy : Further → (List ℕ → Option (List ℕ)) → List EndState → Option (List ℕ) → Option (List ℕ) → Type 0
HasLivedBy (one a) file ends old new = Unit {0}
HasLivedBy (two a b) file ends old new = Unit {0}
HasLivedBy (three script path lanes) file ends old new =
    IfSome (lanes_of lanes) (λ n. IfSome (file script) (λ text. IfSome (file path) (λ bytes. HasLived text bytes n ends old new)))
HasLivedBy (four a b c d) file ends old new = Unit {0}
