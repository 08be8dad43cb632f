-- Lists of items whose code is orderly.
use Rattle.std.specs.Prelude.{◌≡◌, ◌≤◌, Bool, true, false}
use Rattle.apf_coding.specs.declared.instruction.Op.TheVariants.{Ext}
use Rattle.apf_asm.specs.declared.item.Item.{Item}
use Rattle.apf_asm.specs.declared.item.Item.TheVariants as items

-- an ext has an immediate of at most 35
abbrev pub HasKnownExt : Item → Type 0
HasKnownExt (items.Fixed f) = f.op ≡ Ext → f.imm ≤ 35
HasKnownExt (items.Jump j) = Unit {0}
HasKnownExt (items.Label l) = Unit {0}
HasKnownExt (items.Byte b) = Unit {0}

-- an instruction comes of it
abbrev pub is_instruction : Item → Bool
is_instruction (items.Fixed f) = true
is_instruction (items.Jump j) = true
is_instruction (items.Label l) = false
is_instruction (items.Byte b) = false
