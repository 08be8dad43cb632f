-- Orderly programs, and the first flaw of every other program.
--
-- First the whole program is instructions, each at the end of the one before. Then each of them is asked in turn.
use Rattle.std.specs.Prelude.{◌≡◌, ℕ, ◌+◌, ◌<◌, ◌⊎◌, Bool, true, false, not, ◌&&◌, ◌||◌, ◌==◌, nat_lt, if◌then◌else◌, List, [], ◌∷◌, length, Option, Some, None, Result, Ok, Err}
use Rattle.apf_coding.specs.declared.instruction.Op.{Op}
use Rattle.apf_coding.specs.declared.instruction.Op.TheVariants.{Ext}
use Rattle.apf_coding.specs.declared.instruction.DecodeCause.{DecodeCause}
use Rattle.apf_coding.specs.declared.instruction.DecodeCause.TheVariants as causes
use Rattle.apf_coding.specs.Words.{word}
use Rattle.apf_coding.specs.Instruction.{Instruction, is_counted}
use Rattle.apf_coding.specs.Spelling.{Begins}
use Rattle.apf_coding.specs.Reading.{cause_at}
use Rattle.apf_coding.specs.Jumps.{is_jump}
use Rattle.apf_check.specs.declared.flaw.Flaw.{Flaw}
use Rattle.apf_check.specs.declared.flaw.Flaw.TheVariants.{Opcode, Cut, Extended, Compare, Past, Backward, Inside}

-- ---- the instructions of a program

-- an instruction of a program, its place, and the place after it
pub record Part : Type 0 where
  pub place : ℕ
  pub instruction : Instruction
  pub end : ℕ

-- they stand in a program from one place to another, each at the end of the one before
abbrev pub Stand : List ℕ → ℕ → List Part → ℕ → Type 0
Stand program at [] to = at ≡ to
Stand program at (p ∷ rest) to = (p.place ≡ at) × Begins program at p.instruction p.end × Stand program p.end rest to

-- one of them begins at a place
abbrev pub is_place : List Part → ℕ → Bool
is_place [] at = false
is_place (p ∷ rest) at = (p.place == at) || is_place rest at

-- ---- the flaw of an instruction

abbrev pub is_ext : Op → Bool
is_ext Ext = true
is_ext _ = false

-- an ext whose immediate is above 35
abbrev pub is_unknown_ext : Instruction → Bool
is_unknown_ext i = is_ext i.op && nat_lt 35 i.imm

-- a jnebs with register 1 or no bytes
abbrev pub is_faulty_compare : Instruction → Bool
is_faulty_compare i = is_counted i.op && (not (i.reg == 0) || (length i.bytes == 0))

-- where a jump goes: the place after it plus its immediate
abbrev pub target : Part → ℕ
target p = word (p.end + p.instruction.imm)

-- what is wrong with where a jump goes, in a program of n bytes whose instructions begin at these places
abbrev pub jump_flaw : ℕ → (ℕ → Bool) → Part → Option Flaw
jump_flaw n begins p =
    if nat_lt (n + 1) (target p) then Some (Past p.place)
    else if nat_lt (target p) p.end then Some (Backward p.place)
    else if nat_lt (target p) n && not (begins (target p)) then Some (Inside p.place)
    else None

-- what is asked of an instruction, in order
unfoldable pub flaw_of : ℕ → (ℕ → Bool) → Part → Option Flaw
flaw_of n begins p =
    if is_unknown_ext p.instruction then Some (Extended p.place)
    else if is_faulty_compare p.instruction then Some (Compare p.place)
    else if is_jump p.instruction.op then jump_flaw n begins p
    else None

-- the first of two, if there is one
abbrev pub or_else : Option Flaw → Option Flaw → Option Flaw
or_else (Some flaw) later = Some flaw
or_else None later = later

-- the flaw of the first instruction that has one
unfoldable pub first_flaw : ℕ → (ℕ → Bool) → List Part → Option Flaw
first_flaw n begins [] = None
first_flaw n begins (p ∷ rest) = or_else (flaw_of n begins p) (first_flaw n begins rest)

-- ---- programs

-- instructions fill the program, there are so many, and none has a flaw
pub record IsOrderly (program : List ℕ) (count : ℕ) : Type 0 where
  pub parts : List Part
  pub fill : Stand program 0 parts (length program)
  pub many : length parts ≡ count
  pub right : first_flaw (length program) (is_place parts) parts ≡ None

-- by why no instruction begins at a place
abbrev pub broken : DecodeCause → ℕ → Flaw
broken causes.Opcode at = Opcode at
broken causes.Cut at = Cut at

-- instructions stand up to a place inside the program at which none begins
pub record IsBroken (program : List ℕ) (flaw : Flaw) : Type 0 where
  pub at : ℕ
  pub parts : List Part
  pub stand : Stand program 0 parts at
  pub inside : at < length program
  pub nothing : (i : Instruction) (end : ℕ) → ¬ Begins program at i end
  pub says : flaw ≡ broken (cause_at program at) at

-- instructions fill the program, and this is the flaw of the first that has one
pub record IsWrong (program : List ℕ) (flaw : Flaw) : Type 0 where
  pub parts : List Part
  pub fill : Stand program 0 parts (length program)
  pub wrong : first_flaw (length program) (is_place parts) parts ≡ Some flaw

-- the first flaw of a program
abbrev pub IsFirstFlaw : List ℕ → Flaw → Type 0
IsFirstFlaw program flaw = IsBroken program flaw ⊎ IsWrong program flaw

-- a program is orderly with so many instructions, or has this flaw first
abbrev pub IsAnswer : List ℕ → Result ℕ Flaw → Type 0
IsAnswer program (Ok count) = IsOrderly program count
IsAnswer program (Err flaw) = IsFirstFlaw program flaw
