use Rattle.std.proofs.Common.{rules}
use Rattle.apf_asm.specs.TextReading.{simple_read}
use Rattle.apf_asm.proofs.TextOperands.{none-map, one-map, two-map, two_or_three-map}
use Rattle.apf_asm.proofs.text_item.simple.Goals as goal
use Rattle.apf_asm.proofs.text_item.simple.Goals.{in_default-via-in-Label+else-operands-lt1, in_default-via-in-Load+then-this-lt2, in_default-via-in-Load+else-this-lt2+else-this-lt3, in_default-via-in-Arithmetic+then-this-lt1, in_default-via-in-Arithmetic+else-this-lt1+else-this-lt2-2, in_default-via-in-Shift+then-this-lt1-2, in_default-via-in-Shift+else-this-lt1-2+else-this-lt2-4, in_default-via-in-Signed+then-this-lt2-6, in_default-via-in-Signed+else-this-lt2-6+else-this-lt3-4, in_default-via-in-Slot+then-this-lt2-7, in_default-via-in-Slot+else-this-lt2-7+else-this-lt3-5, in_default-via-in-Register+then-this-lt1-3, in_default-via-in-Register+else-this-lt1-3+else-this-lt2-8, in_default-via-in-Swap+else-this-lt1-4, in_default-via-in-Jump+then-this-lt1-5, in_default-via-in-Jump+else-this-lt1-5+else-this-lt2-9, in_default-via-in-Compare+then-this-lt2-10, in_default-via-in-Compare+else-this-lt2-10+else-this-lt3-6, in_default-via-in-Dotted+then-this-lt2-12, in_default-via-in-Dotted+else-this-lt2-12+else-this-lt3-8+else-this-lt4, in_default-via-in-Byte+then-this-lt1-6, in_default-via-in-Byte+else-this-lt1-6+else-this-lt2-13, in_default-via-in_default}

pub returns-in_default : goal.returns-in_default
unfolding simple_read
returns-in_default c =
    elim c.in_default.branch [
      | in_default-via-in-Label+else-operands-lt1 w ↦ search (rules, none-map, one-map, two-map, two_or_three-map)
      | in_default-via-in-Load+then-this-lt2 w ↦ search (rules, none-map, one-map, two-map, two_or_three-map)
      | in_default-via-in-Load+else-this-lt2+else-this-lt3 w ↦ search (rules, none-map, one-map, two-map, two_or_three-map)
      | in_default-via-in-Arithmetic+then-this-lt1 w ↦ search (rules, none-map, one-map, two-map, two_or_three-map)
      | in_default-via-in-Arithmetic+else-this-lt1+else-this-lt2-2 w ↦ search (rules, none-map, one-map, two-map, two_or_three-map)
      | in_default-via-in-Shift+then-this-lt1-2 w ↦ search (rules, none-map, one-map, two-map, two_or_three-map)
      | in_default-via-in-Shift+else-this-lt1-2+else-this-lt2-4 w ↦ search (rules, none-map, one-map, two-map, two_or_three-map)
      | in_default-via-in-Signed+then-this-lt2-6 w ↦ search (rules, none-map, one-map, two-map, two_or_three-map)
      | in_default-via-in-Signed+else-this-lt2-6+else-this-lt3-4 w ↦ search (rules, none-map, one-map, two-map, two_or_three-map)
      | in_default-via-in-Slot+then-this-lt2-7 w ↦ search (rules, none-map, one-map, two-map, two_or_three-map)
      | in_default-via-in-Slot+else-this-lt2-7+else-this-lt3-5 w ↦ search (rules, none-map, one-map, two-map, two_or_three-map)
      | in_default-via-in-Register+then-this-lt1-3 w ↦ search (rules, none-map, one-map, two-map, two_or_three-map)
      | in_default-via-in-Register+else-this-lt1-3+else-this-lt2-8 w ↦ search (rules, none-map, one-map, two-map, two_or_three-map)
      | in_default-via-in-Swap+else-this-lt1-4 w ↦ search (rules, none-map, one-map, two-map, two_or_three-map)
      | in_default-via-in-Jump+then-this-lt1-5 w ↦ search (rules, none-map, one-map, two-map, two_or_three-map)
      | in_default-via-in-Jump+else-this-lt1-5+else-this-lt2-9 w ↦ search (rules, none-map, one-map, two-map, two_or_three-map)
      | in_default-via-in-Compare+then-this-lt2-10 w ↦ search (rules, none-map, one-map, two-map, two_or_three-map)
      | in_default-via-in-Compare+else-this-lt2-10+else-this-lt3-6 w ↦ search (rules, none-map, one-map, two-map, two_or_three-map)
      | in_default-via-in-Dotted+then-this-lt2-12 w ↦ search (rules, none-map, one-map, two-map, two_or_three-map)
      | in_default-via-in-Dotted+else-this-lt2-12+else-this-lt3-8+else-this-lt4 w ↦ search (rules, none-map, one-map, two-map, two_or_three-map)
      | in_default-via-in-Byte+then-this-lt1-6 w ↦ search (rules, none-map, one-map, two-map, two_or_three-map)
      | in_default-via-in-Byte+else-this-lt1-6+else-this-lt2-13 w ↦ search (rules, none-map, one-map, two-map, two_or_three-map)
      | in_default-via-in_default w ↦ search (rules, none-map, one-map, two-map, two_or_three-map)
    ]
