-- `filter`: the report of a script over a capture.
use Rattle.std.specs.Prelude.{ℕ, List, [], ◌∷◌, nat_lt, if◌then◌else◌, Option, None, Some, Result, Ok, Err}
use Rattle.apf_base.specs.Streams.{AppendsAll}
use Rattle.policy_state.specs.declared.basis.Script.{Script}
use Rattle.policy_state.specs.States.{start}
use Rattle.size_fit.specs.Sizes.{base, limit_of}
use Rattle.script_text.specs.declared.script_error.ScriptError.{ScriptError}
use Rattle.script_text.specs.declared.script_error.ScriptError.TheVariants as scripts
use Rattle.script_text.specs.ScriptLines.{Contents}
use Rattle.script_text.specs.Scripts.{IsScriptText}
use Rattle.script_text.specs.ScriptReading.{script_answer}
use Rattle.filter_core.specs.Replay.{begun}
use Rattle.filter_report.specs.Report.{Tells}
use Rattle.filter_report.specs.Streaming.{replays}
use Rattle.command_plan.specs.Files.{input}
use Rattle.command_plan.specs.Plan.{Plan, ◌>>=◌, MayHold, Done, Refuse, asks, opens, picks, says, never, unless}
use Rattle.command_plan.specs.declared.fault.FileKind.TheVariants as files
use Rattle.command_plan.specs.declared.fault.Refusal.{Refusal}
use Rattle.command_plan.specs.declared.fault.Refusal.TheVariants.{BadScript, TooLarge}

-- ---- the script

-- a text says something, or it is refused by its first fault
abbrev pub says_something : Result Contents ScriptError → Plan (Unit {0})
says_something (Ok contents) = Done tt
says_something (Err (scripts.Bad line kind)) = Refuse (BadScript line kind)
says_something (Err scripts.OutOfMemory) = never

-- the script that a text is the text of
abbrev pub reads_script : List ℕ → Plan Script
reads_script text = do
  _ ← says_something (script_answer text)
  picks (IsScriptText text)

-- ---- the first install

-- the base of the first state is to fit: at the start no keepalive was sent
abbrev pub script_refusal : Script → Option Refusal
script_refusal script =
    let need = base script.config start in
    let limit = limit_of script.config in
    if nat_lt limit need then Some (TooLarge need limit) else None

-- the line of the first install
abbrev pub IsFirstLine : Script → List ℕ → Type 0
IsFirstLine script line = Tells (begun script).told [] (line ∷ [])

abbrev pub begins : Script → Plan (List ℕ)
begins script = do
  _ ← unless (script_refusal script)
  line ← picks (IsFirstLine script)
  _ ← says (line ∷ [])
  Done line

-- ---- the whole

-- the capture of a script is opened once the line of the first install stands, and taken record by record
abbrev pub filters : Script → List ℕ → Plan (Unit {0})
filters script capture = do
  line ← begins script
  found ← opens (input files.Capture 2) capture
  replays (input files.Capture 2) script line found

-- `filter SCRIPT CAPTURE`
abbrev pub filter_plan : List ℕ → List ℕ → Plan (Unit {0})
filter_plan script capture = do
  text ← asks (input files.Script 1) script
  read ← reads_script text
  filters read capture

-- Of a script whose file may be told, the line of the first install was written, and nothing else.
abbrev pub HasOnlyBegun : Option (List ℕ) → Option (List ℕ) → Option (List ℕ) → Type 0
HasOnlyBegun told old new =
    (text : List ℕ) × MayHold (input files.Script 1) told text
    × (script : Script) × IsScriptText text script
    × (line : List ℕ) × IsFirstLine script line × AppendsAll old new (line ∷ [])
