-- `disasm`: the listing of a program.
use Rattle.std.specs.Prelude.{ℕ, List, map}
use Rattle.apf_disasm.specs.Listing.{IsListing}
use Rattle.apf_disasm.specs.Printing.{line_text}
use Rattle.command_plan.specs.Files.{input}
use Rattle.command_plan.specs.Plan.{Plan, ◌>>=◌, asks, picks, says}
use Rattle.command_plan.specs.declared.fault.FileKind.TheVariants.{Program}

-- the lines of the program's listing
abbrev pub lists : List ℕ → Plan (Unit {0})
lists program = do
  entries ← picks (IsListing program)
  says (map line_text entries)

-- `disasm PROGRAM`
abbrev pub disasm_plan : List ℕ → Plan (Unit {0})
disasm_plan program = do
  code ← asks (input Program 1) program
  lists code
