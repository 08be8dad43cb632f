-- The listing of a code: an entry for each instruction, and one for each byte at which none begins.
use Rattle.std.specs.Prelude.{◌≡◌, ℕ, ◌+◌, List, [], ◌∷◌, length, slice_get, Some}
use Rattle.apf_coding.specs.Instruction.{Instruction, view}
use Rattle.apf_coding.specs.Spelling.{Begins}
use Rattle.apf_disasm.specs.declared.listing.Line.{Line}
use Rattle.apf_disasm.specs.declared.listing.Line.TheVariants as lines

-- an instruction or a byte, each with its place
pub data ListingEntry : Type 0 where
  Op : ℕ → Instruction → ListingEntry
  Byte : ℕ → ℕ → ListingEntry

-- a line without where its bytes lie in memory
abbrev pub entry_of : Line → ListingEntry
entry_of (lines.Op at instr) = Op at (view instr)
entry_of (lines.Byte at value) = Byte at value

-- from a place on: where an instruction begins it is an entry, and the next is at its end, else the byte is one
abbrev pub Lists : List ℕ → ℕ → List ListingEntry → Type 0
Lists code at [] = at ≡ length code
Lists code at (Op place i ∷ rest) = (place ≡ at) × ((end : ℕ) × Begins code at i end × Lists code end rest)
Lists code at (Byte place value ∷ rest) = (place ≡ at) × (slice_get code at ≡ Some value) × ((i : Instruction) (end : ℕ) → ¬ Begins code at i end) × Lists code (at + 1) rest

abbrev pub IsListing : List ℕ → List ListingEntry → Type 0
IsListing code entries = Lists code 0 entries
