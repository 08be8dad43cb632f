-- The items that rules are made of.
use Rattle.std.specs.Prelude.{ℕ, ◌-◌, ◌*◌, List, []}
use Rattle.apf_coding.specs.declared.instruction.Op.{Op}
use Rattle.apf_coding.specs.declared.instruction.Op.TheVariants.{Li, Jmp, Jnebs}
use Rattle.apf_coding.specs.declared.machine.Verdict.{Verdict}
use Rattle.apf_coding.specs.declared.machine.Verdict.TheVariants.{Pass, Drop}
use Rattle.apf_asm.specs.declared.item.Item.{Item}
use Rattle.apf_asm.specs.declared.item.Item.TheVariants as items
use Rattle.apf_asm.specs.declared.item.Target.{Target}
use Rattle.apf_asm.specs.declared.item.Target.TheVariants as targets

-- the label at which a verdict is counted
abbrev pub label_of : Verdict → ℕ
label_of Pass = 0
label_of Drop = 1

abbrev pub to_end : Verdict → Target
to_end verdict = targets.Label (label_of verdict)

-- an instruction that is no jump, with a register, a width and an immediate
abbrev pub fixed : Op → ℕ → ℕ → ℕ → Item
fixed op reg width imm = items.Fixed (record { op = op; reg = reg; width = width; imm = imm; second = 0; bytes = [] })

-- R0 is the number of a field that begins in the frame's first 256 bytes
abbrev pub load : Op → ℕ → Item
load op at = fixed op 0 1 at

-- R0 is a place in the frame's first 128 bytes
abbrev pub place : ℕ → Item
place at = fixed Li 0 1 at

-- R1 says which counter is to be raised, by its number
abbrev pub count : ℕ → Item
count number = fixed Li 1 1 (256 - 4 * number)

-- a jump where R0 compares with a number
abbrev pub jump_if : Op → ℕ → Target → Item
jump_if op number to = items.Jump (record { op = op; reg = 0; second = number; bytes = []; to = to })

-- a jump where R0 compares with R1
abbrev pub jump_if_r1 : Op → Target → Item
jump_if_r1 op to = items.Jump (record { op = op; reg = 1; second = 0; bytes = []; to = to })

-- a jump where the frame's bytes from R0 on are others
abbrev pub jump_unless : List ℕ → Target → Item
jump_unless bytes to = items.Jump (record { op = Jnebs; reg = 0; second = 0; bytes = bytes; to = to })

abbrev pub jump : Target → Item
jump to = items.Jump (record { op = Jmp; reg = 0; second = 0; bytes = []; to = to })
