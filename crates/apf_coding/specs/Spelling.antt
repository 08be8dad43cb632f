-- The one spelling of an instruction. This machine's own layout, after version 4 of the Android Packet Filter.
--
-- The first byte holds the number of the opcode (top 5 bits), the size field (2 bits) and the register bit.
-- The first immediate follows, then what the opcode has beside it.
use Rattle.std.specs.Prelude.{◌≡◌, ℕ, ◌+◌, ◌*◌, ◌^◌, ◌<◌, ◌⊎◌, false, ◌==◌, if◌then◌else◌, List, [], ◌∷◌, ◌++◌, length, slice_range, ◌≤◌}
use Rattle.apf_coding.specs.Words.{big_endian}
use Rattle.apf_coding.specs.Instruction.{opcode_of, Instruction, is_counted, has_second}

-- the widths of immediates and counts, in bytes
abbrev pub IsWidth : ℕ → Type 0
IsWidth w = (w ≡ 0) ⊎ ((w ≡ 1) ⊎ ((w ≡ 2) ⊎ (w ≡ 4)))

-- it has a spelling: its numbers fit, and it has a second immediate or bytes only where its opcode does
pub record IsWellFormed (i : Instruction) : Type 0 where
  pub reg : i.reg < 2
  pub width : IsWidth i.width
  pub imm : i.imm < 256 ^ i.width
  pub second : i.second < 256 ^ i.width
  pub no_second : has_second i.op i.reg ≡ false → i.second ≡ 0
  pub bytes : length i.bytes < 256 ^ i.width
  pub no_bytes : is_counted i.op ≡ false → i.bytes ≡ []

-- the size field of a width: 0, 1, 2, 3 for 0, 1, 2, 4 bytes
abbrev pub size_of : ℕ → ℕ
size_of w = if w == 4 then 3 else w

-- opcode, size field and register bit
abbrev pub first_byte : Instruction → ℕ
first_byte i = opcode_of i.op * 8 + size_of i.width * 2 + i.reg

-- the bytes of the second immediate, where there is one
abbrev pub second_of : Instruction → List ℕ
second_of i = if has_second i.op i.reg then big_endian i.width i.second else []

-- the count and the bytes, where there are such
abbrev pub counted_of : Instruction → List ℕ
counted_of i = if is_counted i.op then big_endian i.width (length i.bytes) ++ i.bytes else []

-- the one spelling of a well-formed instruction
abbrev pub spelling : Instruction → List ℕ
spelling i = first_byte i ∷ big_endian i.width i.imm ++ second_of i ++ counted_of i

-- the instruction is well formed, and the bytes are its spelling
pub record Spells (i : Instruction) (bytes : List ℕ) : Type 0 where
  pub well_formed : IsWellFormed i
  pub spelled : bytes ≡ spelling i

-- an instruction's spelling stands in a program from one place to another
pub record Begins (code : List ℕ) (at : ℕ) (i : Instruction) (end : ℕ) : Type 0 where
  pub order : at < end
  pub within : end ≤ length code
  pub spells : Spells i (slice_range code at end)
