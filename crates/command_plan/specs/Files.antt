-- The files that commands read, and how reading one fails.
use Rattle.std.specs.Prelude.{◌≡◌, ⊤, ℕ, List, codes}
use Rattle.command_plan.specs.declared.fault.FileKind.{FileKind}
use Rattle.command_plan.specs.declared.fault.FileKind.TheVariants.{Program, Text, Script, Capture}
use Rattle.command_plan.specs.declared.fault.Input.{Input}
use Rattle.command_plan.specs.declared.fault.Refusal.TheVariants.{TooLong}
use Rattle.command_plan.specs.declared.fault.Fault.{Fault}
use Rattle.command_plan.specs.declared.fault.Fault.TheVariants.{Refused, OutOfMemory, Read, Open}
use Rattle.apf_base.specs.Limits.{capture_limit, program_limit, script_limit, text_limit}

-- the most bytes of a file of each kind
abbrev pub file_limit : FileKind → ℕ
file_limit Program = program_limit
file_limit Text = text_limit
file_limit Script = script_limit
file_limit Capture = capture_limit

abbrev pub kind_name : FileKind → List ℕ
kind_name Program = codes "program"
kind_name Text = codes "text"
kind_name Script = codes "script"
kind_name Capture = codes "capture"

-- the file of this kind whose name stands at this place among the words
abbrev pub input : FileKind → ℕ → Input
input kind word = record { kind = kind; word = word }

-- how reading a file fails, and what it owes where the file is too long
abbrev pub FileFails : Input → Type 0 → Fault → Type 0
FileFails input long OutOfMemory = ⊤
FileFails input long (Read which) = which ≡ input
FileFails input long (Open which) = which ≡ input
FileFails input long (Refused (TooLong which)) = (which ≡ input) × long
FileFails input long fault = ⊥
