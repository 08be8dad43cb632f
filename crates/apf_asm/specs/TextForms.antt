-- The forms of a line of assembler text: the words of each, and the item that they stand for.
use Rattle.std.specs.Prelude.{◌≡◌, ℕ, ℤ, pos, negsuc, ◌+◌, ◌-◌, ◌^◌, ◌<◌, ◌≤◌, Bool, true, false, IsTrue, if◌then◌else◌, List, [], ◌∷◌, ◌++◌, length, codes, FitsSigned}
use Rattle.std.specs.Int.{w32}
use Rattle.std.specs.Fmt.{decimal, signed_decimal}
use Rattle.hex.specs.Hex.{encode_lower, IsBytes}
use Rattle.apf_coding.specs.declared.instruction.Op.{Op}
use Rattle.apf_coding.specs.declared.instruction.Op.TheVariants.{Ldb, Ldh, Ldw, Ldbx, Ldhx, Ldwx, Add, Mul, Div, And, Or, Sh, Li, Jmp, Jnebs, Ext, Lddw, Stdw}
use Rattle.apf_coding.specs.Widths.{least_unsigned, least_signed}
use Rattle.apf_coding.specs.Instruction.{Instruction, is_conditional, is_counted, has_second}
use Rattle.apf_coding.specs.Spelling.{IsWellFormed}
use Rattle.apf_coding.specs.Names.{op_name}
use Rattle.apf_asm.specs.declared.item.Target.{Target}
use Rattle.apf_asm.specs.declared.item.Target.TheVariants as targets
use Rattle.apf_asm.specs.declared.item.Item.{Item}
use Rattle.apf_asm.specs.declared.item.Item.TheVariants as items
use Rattle.apf_asm.specs.Items.{bytes_limit}

-- a line by its form, with the numbers, registers and targets that stand in it
pub data Form : Type 0 where
  Label : ℕ → Form
  Load : Op → ℕ → ℕ → Form
  Arithmetic : Op → ℕ → Form
  ArithmeticR1 : Op → Form
  Shift : ℤ → Form
  ShiftR1 : Form
  Signed : Op → ℕ → ℤ → Form
  LoadSlot : ℕ → ℕ → Form
  StoreSlot : ℕ → ℕ → Form
  Complement : ℕ → Form
  Negate : ℕ → Form
  Swap : Form
  Move : ℕ → Form
  Jump : Target → Form
  Compare : Op → ℕ → Target → Form
  CompareR1 : Op → Target → Form
  CompareBytes : List ℕ → Target → Form
  Dotted : Instruction → Form
  Byte : ℕ → Form

-- ---- the words

-- `r0` or `r1`
abbrev pub register_word : ℕ → List ℕ
register_word reg = codes "r" ++ (48 + reg) ∷ []

-- where a jump goes
abbrev pub target_word : Target → List ℕ
target_word (targets.Label n) = codes "L" ++ decimal n
target_word targets.Pass = codes "pass"
target_word targets.Drop = codes "drop"

-- two lower-case digits a byte
abbrev pub hex_word : List ℕ → List ℕ
hex_word bytes = codes "x" ++ encode_lower bytes

-- an opcode's name, a dot and a width
abbrev pub dotted_word : Op → ℕ → List ℕ
dotted_word op width = op_name op ++ codes "." ++ (48 + width) ∷ []

-- the second immediate of an instruction, where there is one
abbrev pub second_words : Instruction → List (List ℕ)
second_words i = if has_second i.op i.reg then decimal i.second ∷ [] else []

-- the counted bytes of an instruction, where there are such
abbrev pub counted_words : Instruction → List (List ℕ)
counted_words i = if is_counted i.op then hex_word i.bytes ∷ [] else []

-- the words of a line
abbrev pub words_of : Form → List (List ℕ)
words_of (Label n) = (codes "L" ++ decimal n ++ codes ":") ∷ []
words_of (Load op reg n) = op_name op ∷ register_word reg ∷ decimal n ∷ []
words_of (Arithmetic op n) = op_name op ∷ decimal n ∷ []
words_of (ArithmeticR1 op) = op_name op ∷ register_word 1 ∷ []
words_of (Shift z) = codes "sh" ∷ signed_decimal z ∷ []
words_of ShiftR1 = codes "sh" ∷ register_word 1 ∷ []
words_of (Signed op reg z) = op_name op ∷ register_word reg ∷ signed_decimal z ∷ []
words_of (LoadSlot reg slot) = codes "ldm" ∷ register_word reg ∷ decimal slot ∷ []
words_of (StoreSlot reg slot) = codes "stm" ∷ register_word reg ∷ decimal slot ∷ []
words_of (Complement reg) = codes "not" ∷ register_word reg ∷ []
words_of (Negate reg) = codes "neg" ∷ register_word reg ∷ []
words_of Swap = codes "swap" ∷ []
words_of (Move reg) = codes "move" ∷ register_word reg ∷ []
words_of (Jump to) = codes "jmp" ∷ target_word to ∷ []
words_of (Compare op n to) = op_name op ∷ decimal n ∷ target_word to ∷ []
words_of (CompareR1 op to) = op_name op ∷ register_word 1 ∷ target_word to ∷ []
words_of (CompareBytes bytes to) = codes "jnebs" ∷ hex_word bytes ∷ target_word to ∷ []
words_of (Dotted i) = dotted_word i.op i.width ∷ register_word i.reg ∷ decimal i.imm ∷ second_words i ++ counted_words i
words_of (Byte b) = codes ".byte" ∷ decimal b ∷ []

-- ---- the items

-- the bits of a signed number in its least width
abbrev pub immediate : ℤ → ℕ
immediate (pos n) = n
immediate (negsuc n) = 256 ^ least_signed (negsuc n) - (n + 1)

-- an instruction without a second immediate and without bytes
abbrev pub plain : Op → ℕ → ℕ → ℕ → Item
plain op reg width imm = items.Fixed (record { op = op; reg = reg; width = width; imm = imm; second = 0; bytes = [] })

-- the same with the least width of an unsigned number
abbrev pub unsigned : Op → ℕ → ℕ → Item
unsigned op reg n = plain op reg (least_unsigned n) n

-- the same with the least width of a signed number
abbrev pub signed : Op → ℕ → ℤ → Item
signed op reg z = plain op reg (least_signed z) (immediate z)

abbrev pub jump : Op → ℕ → ℕ → List ℕ → Target → Item
jump op reg second bytes to = items.Jump (record { op = op; reg = reg; second = second; bytes = bytes; to = to })

-- an instruction as it is given
abbrev pub given : Instruction → Item
given i = items.Fixed (record { op = i.op; reg = i.reg; width = i.width; imm = i.imm; second = i.second; bytes = i.bytes })

-- the item of a line
abbrev pub item_of : Form → Item
item_of (Label n) = items.Label n
item_of (Load op reg n) = unsigned op reg n
item_of (Arithmetic op n) = unsigned op 0 n
item_of (ArithmeticR1 op) = plain op 1 0 0
item_of (Shift z) = signed Sh 0 z
item_of ShiftR1 = plain Sh 1 0 0
item_of (Signed op reg z) = signed op reg z
item_of (LoadSlot reg slot) = unsigned Ext reg slot
item_of (StoreSlot reg slot) = unsigned Ext reg (16 + slot)
item_of (Complement reg) = unsigned Ext reg 32
item_of (Negate reg) = unsigned Ext reg 33
item_of Swap = unsigned Ext 0 34
item_of (Move reg) = unsigned Ext reg 35
item_of (Jump to) = jump Jmp 0 0 [] to
item_of (Compare op n to) = jump op 0 n [] to
item_of (CompareR1 op to) = jump op 1 0 [] to
item_of (CompareBytes bytes to) = jump Jnebs 0 0 bytes to
item_of (Dotted i) = given i
item_of (Byte b) = items.Byte b

-- ---- what may stand in a line

-- the loads from the frame
abbrev pub is_load : Op → Bool
is_load Ldb = true
is_load Ldh = true
is_load Ldw = true
is_load Ldbx = true
is_load Ldhx = true
is_load Ldwx = true
is_load _ = false

-- the arithmetic with an unsigned number
abbrev pub is_arithmetic : Op → Bool
is_arithmetic Add = true
is_arithmetic Mul = true
is_arithmetic Div = true
is_arithmetic And = true
is_arithmetic Or = true
is_arithmetic _ = false

-- what has a register and a signed number
abbrev pub is_signed : Op → Bool
is_signed Li = true
is_signed Lddw = true
is_signed Stdw = true
is_signed _ = false

-- a word of the machine
abbrev pub IsWord : ℕ → Type 0
IsWord n = n < 2 ^ 32

abbrev pub IsTarget : Target → Type 0
IsTarget (targets.Label n) = IsWord n
IsTarget targets.Pass = Unit {0}
IsTarget targets.Drop = Unit {0}

-- the opcodes and numbers that stand in a line of this form
abbrev pub IsAllowed : Form → Type 0
IsAllowed (Label n) = IsWord n
IsAllowed (Load op reg n) = IsTrue (is_load op) × (reg < 2) × IsWord n
IsAllowed (Arithmetic op n) = IsTrue (is_arithmetic op) × IsWord n
IsAllowed (ArithmeticR1 op) = IsTrue (is_arithmetic op)
IsAllowed (Shift z) = FitsSigned w32 z
IsAllowed ShiftR1 = Unit {0}
IsAllowed (Signed op reg z) = IsTrue (is_signed op) × (reg < 2) × FitsSigned w32 z
IsAllowed (LoadSlot reg slot) = (reg < 2) × (slot < 16)
IsAllowed (StoreSlot reg slot) = (reg < 2) × (slot < 16)
IsAllowed (Complement reg) = reg < 2
IsAllowed (Negate reg) = reg < 2
IsAllowed Swap = Unit {0}
IsAllowed (Move reg) = reg < 2
IsAllowed (Jump to) = IsTarget to
IsAllowed (Compare op n to) = IsTrue (is_conditional op) × IsWord n × IsTarget to
IsAllowed (CompareR1 op to) = IsTrue (is_conditional op) × IsTarget to
IsAllowed (CompareBytes bytes to) = IsBytes bytes × (0 < length bytes) × (length bytes ≤ bytes_limit) × IsTarget to
IsAllowed (Dotted i) = IsWellFormed i × IsBytes i.bytes × (length i.bytes ≤ bytes_limit)
IsAllowed (Byte b) = b < 256

-- ---- what a line says

-- the words stand for the item
pub record Denotes (words : List (List ℕ)) (item : Item) : Type 0 where
  pub form : Form
  pub allowed : IsAllowed form
  pub words_are : words ≡ words_of form
  pub item_is : item ≡ item_of form

-- the word is the first of some form
pub record IsKnown (word : List ℕ) : Type 0 where
  pub form : Form
  pub allowed : IsAllowed form
  pub operands : List (List ℕ)
  pub words_are : words_of form ≡ word ∷ operands
