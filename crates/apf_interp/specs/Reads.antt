-- What is read of an instruction where it stands, tied to the reading that runs are defined with.
use Rattle.std.specs.Prelude.{◌≡◌, ℕ, ◌/◌, ◌%◌, ◌≤◌, if◌then◌else◌, ◌==◌, List, [], length, drop, Option, Some, None, Result, Ok, Err}
use Rattle.apf_coding.specs.declared.machine.FaultKind.{FaultKind}
use Rattle.apf_coding.specs.declared.machine.FaultKind.TheVariants.{Cut}
use Rattle.apf_coding.specs.declared.instruction.Op.{Op}
use Rattle.apf_coding.specs.declared.instruction.Op.TheVariants.{Li}
use Rattle.apf_coding.specs.Instruction.{Instruction}
use Rattle.apf_coding.specs.Reading.{width_of, number_at}
use Rattle.apf_coding.specs.Meaning.{signed}

-- the width that the size field of a first byte means
abbrev pub width : ℕ → ℕ
width first = width_of (first / 2 % 4)

-- a number and the place behind it are what is read, and Cut comes where nothing is
abbrev pub IsReadTo : List ℕ → Result (ℕ × ℕ) FaultKind → Option (ℕ × List ℕ) → Type 0
IsReadTo program (Ok x) read = (x.1 ≤ length program) × (read ≡ Some (x.0, drop x.1 program))
IsReadTo program (Err kind) read = (kind ≡ Cut) × (read ≡ None)

-- an instruction with one immediate
abbrev pub plain : Op → ℕ → ℕ → ℕ → Instruction
plain op reg w imm = record { op = op; reg = reg; width = w; imm = imm; second = 0; bytes = [] }

-- a number of a width as a signed one, modulo 2 ^ 32: as the first immediate of an instruction is
abbrev pub signed_of : ℕ → ℕ → ℕ
signed_of w n = signed (plain Li 0 w n)

-- the same of a number of a width that is taken as a signed one
abbrev pub IsReadSigned : List ℕ → ℕ → Result (ℕ × ℕ) FaultKind → Option (ℕ × List ℕ) → Type 0
IsReadSigned program w (Ok x) read = (n : ℕ) × (x.1 ≤ length program) × (read ≡ Some (n, drop x.1 program)) × (x.0 ≡ signed_of w n)
IsReadSigned program w (Err kind) read = (kind ≡ Cut) × (read ≡ None)

-- what R0 is compared with, and the bytes behind it: a second immediate, or R1
abbrev pub compared_at : ℕ → ℕ → List ℕ → ℕ → Option (ℕ × List ℕ)
compared_at reg w rest r1 = if reg == 0 then number_at w rest else Some (r1, rest)
