-- Lines that are written one by one. A line has its line feed.
use Rattle.std.specs.Prelude.{ℕ, ⊤, List, ◌++◌, Option}
use Rattle.std.specs.List.{concat}
use Rattle.apf_base.specs.Streams.{AppendsAll, AppendsPart}
use Rattle.filter_report.specs.declared.fault.ReportFault.{ReportFault}
use Rattle.filter_report.specs.declared.fault.ReportFault.TheVariants.{TooLarge, OutOfMemory, Write}

-- Where these held of the lines so far, lines were added, and those hold of all lines.
abbrev pub Adds : (List (List ℕ) → Type 0) → (List (List ℕ) → Type 0) → Option (List ℕ) → Option (List ℕ) → Type 0
Adds Before After old new = (lines : List (List ℕ)) → Before lines → (more : List (List ℕ)) × AppendsAll old new more × After (lines ++ more)

-- The same where a call ended by a fault: whole lines were added, but a write that failed breaks off within the text of
-- the lines, before its end. Of a first program that is too large nothing is said here.
abbrev pub BreaksOff : ReportFault → (List (List ℕ) → Type 0) → (List (List ℕ) → Type 0) → Option (List ℕ) → Option (List ℕ) → Type 0
BreaksOff (TooLarge need limit) Before After old new = ⊤
BreaksOff OutOfMemory Before After old new = Adds Before After old new
BreaksOff Write Before After old new = (lines : List (List ℕ)) → Before lines → (more : List (List ℕ)) × AppendsPart old new (concat more) × After (lines ++ more)
