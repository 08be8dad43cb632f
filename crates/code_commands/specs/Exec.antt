-- `exec`: a program over the frames of a capture.
use Rattle.std.specs.Prelude.{ℕ, List, map}
use Rattle.pcap_files.specs.Stream.{Handed, Told}
use Rattle.plain_text.specs.Numbers.{number_within}
use Rattle.command_plan.specs.Files.{input}
use Rattle.command_plan.specs.Meaning.{CommandMeaning, command, spelled}
use Rattle.command_plan.specs.Plan.{Plan, ◌>>=◌, asks, opens}
use Rattle.command_plan.specs.Weaving.{is_whole, share_of, weaves_all}
use Rattle.command_plan.specs.declared.fault.FileKind.TheVariants.{Program, Capture}
use Rattle.code_commands.specs.ExecText.{exec_lines}

-- the frames of records
abbrev pub frames_of : List Handed → List (List ℕ)
frames_of list = map (λ handed. handed.frame) list

-- a line for the frame of each whole record, as it comes in, and the memory where the capture has no fault
abbrev pub runs_over : List ℕ → Told → ℕ → Plan (Unit {0})
runs_over program found age =
    weaves_all (input Capture 2) found.end (map (share_of 1) found.list) (exec_lines (is_whole found.end) program (frames_of found.list) age)

abbrev pub exec_plan : List ℕ → List ℕ → ℕ → Plan (Unit {0})
exec_plan program capture age = do
  code ← asks (input Program 1) program
  found ← opens (input Capture 2) capture
  runs_over code found age

-- `exec PROGRAM CAPTURE AGE`
abbrev pub exec_meaning : List ℕ → List ℕ → List ℕ → CommandMeaning
exec_meaning program capture age = spelled (number_within 4294967295 age) (λ n. command (exec_plan program capture n))
