-- Items as instructions, and which are well formed.
use Rattle.std.specs.Prelude.{◌≡◌, ℕ, ◌<◌, ◌≤◌, ◌^◌, ◌==◌, Bool, true, false, List, [], length, slice_index, All}
use Rattle.apf_coding.specs.Instruction.{Instruction, is_conditional, is_counted, has_second}
use Rattle.apf_coding.specs.Spelling.{IsWellFormed}
use Rattle.apf_coding.specs.Jumps.{is_jump}
use Rattle.apf_asm.specs.declared.item.Fixed.{Fixed}
use Rattle.apf_asm.specs.declared.item.Jump.{Jump}
use Rattle.apf_asm.specs.declared.item.Item.{Item}
use Rattle.apf_asm.specs.declared.item.Item.TheVariants as items

-- a fixed item as an instruction
abbrev pub fixed_instruction : Fixed → Instruction
fixed_instruction f = record { op = f.op; reg = f.reg; width = f.width; imm = f.imm; second = f.second; bytes = f.bytes }

-- a jump as an instruction, with a width and an offset
abbrev pub jump_instruction : Jump → ℕ → ℕ → Instruction
jump_instruction j width offset = record { op = j.op; reg = j.reg; width = width; imm = offset; second = j.second; bytes = j.bytes }

-- ---- which items may be assembled

-- the most items of a list, and the most bytes that one compares with
abbrev pub item_limit : ℕ
item_limit = 1048576

abbrev pub bytes_limit : ℕ
bytes_limit = 65535

-- as an instruction, whose second immediate is then below 2 ^ 32
pub record IsFixedForm (f : Fixed) : Type 0 where
  pub well_formed : IsWellFormed (fixed_instruction f)
  pub each_a_byte : (k : ℕ) → slice_index f.bytes k < 256
  pub short : length f.bytes ≤ bytes_limit

-- jmp and jnebs have register 0; a second immediate stands with a conditional jump of register 0 alone, and bytes with jnebs alone
pub record IsJumpForm (j : Jump) : Type 0 where
  pub op : is_jump j.op ≡ true
  pub reg : j.reg < 2
  pub no_reg : is_conditional j.op ≡ false → j.reg ≡ 0
  pub second : j.second < 2 ^ 32
  pub no_second : has_second j.op j.reg ≡ false → j.second ≡ 0
  pub no_bytes : is_counted j.op ≡ false → j.bytes ≡ []
  pub some_bytes : is_counted j.op ≡ true → 0 < length j.bytes
  pub each_a_byte : (k : ℕ) → slice_index j.bytes k < 256
  pub short : length j.bytes ≤ bytes_limit

abbrev pub IsItemForm : Item → Type 0
IsItemForm (items.Fixed f) = IsFixedForm f
IsItemForm (items.Jump j) = IsJumpForm j
IsItemForm (items.Label l) = Unit {0}
IsItemForm (items.Byte b) = Unit {0}

-- ---- label form: no bytes, and no fixed item that jumps

abbrev pub IsLabelled : Item → Type 0
IsLabelled (items.Fixed f) = is_jump f.op ≡ false
IsLabelled (items.Jump j) = Unit {0}
IsLabelled (items.Label l) = Unit {0}
IsLabelled (items.Byte b) = ⊥

abbrev pub IsLabelForm : List Item → Type 0
IsLabelForm items = All IsLabelled items

-- ---- labels

-- the item is the label with this number
abbrev pub marks : ℕ → Item → Bool
marks l (items.Label k) = k == l
marks l (items.Fixed f) = false
marks l (items.Jump j) = false
marks l (items.Byte b) = false
