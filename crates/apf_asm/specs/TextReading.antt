-- Assembler text by functions that compute: what a text stands for, or its first refused line.
use Rattle.std.specs.Prelude.{ℕ, ℤ, pos, neg_ℤ, ◌+◌, ◌-◌, ◌&&◌, ◌==◌, nat_lt, nat_le, if◌then◌else◌, Bool, List, [], ◌∷◌, ◌++◌, length, slice_index, take, drop, codes, Option, Some, None, Result, Ok, Err}
use Rattle.std.specs.List.{find, list_all, list_any}
use Rattle.std.specs.Option.{option_to_list}
use Rattle.std.specs.Result.{result_ok}
use Rattle.std.specs.Str.{bytes_eq}
use Rattle.hex.specs.Hex.{decode_of}
use Rattle.apf_coding.specs.declared.instruction.Op.{Op}
use Rattle.apf_coding.specs.declared.instruction.Op.TheVariants.{Ldb, Ldh, Ldw, Ldbx, Ldhx, Ldwx, Add, Mul, Div, And, Or, Sh, Li, Jmp, Jeq, Jne, Jgt, Jlt, Jset, Jnebs, Ext, Lddw, Stdw}
use Rattle.apf_coding.specs.Widths.{least_unsigned}
use Rattle.apf_coding.specs.Instruction.{all_ops, has_second}
use Rattle.apf_coding.specs.Names.{op_name}
use Rattle.apf_coding.specs.Reading.{◌>>=◌}
use Rattle.apf_asm.specs.declared.item.Target.{Target}
use Rattle.apf_asm.specs.declared.item.Target.TheVariants as targets
use Rattle.apf_asm.specs.declared.item.Item.{Item}
use Rattle.apf_asm.specs.declared.item.Item.TheVariants as items
use Rattle.apf_asm.specs.declared.text_error.TextKind.{TextKind}
use Rattle.apf_asm.specs.declared.text_error.TextKind.TheVariants as kinds
use Rattle.apf_asm.specs.declared.text_error.TextError.{TextError}
use Rattle.apf_asm.specs.declared.text_error.TextError.TheVariants.{Bad}
use Rattle.apf_asm.specs.declared.text_head.Head.{Head}
use Rattle.apf_asm.specs.declared.text_head.Head.TheVariants as heads
use Rattle.apf_asm.specs.TextForms.{plain, unsigned, signed, jump, given}
use Rattle.plain_text.specs.Lines.{lines_of}
use Rattle.apf_asm.specs.TextLines.{is_printable, words_in}
use Rattle.plain_text.specs.Numbers as numbers
use Rattle.apf_asm.specs.Items.{bytes_limit}

-- ---- words

abbrev pub word_below : ℕ → ℕ → Option ℕ
word_below bound n = if nat_lt n bound then Some n else None

-- the number of 32 bits that a word spells
abbrev pub word_number : List ℕ → Option ℕ
word_number word = numbers.number_within 4294967295 word

abbrev pub negative : ℕ → Option ℤ
negative n = if nat_lt 0 n && nat_le n 2147483648 then Some (neg_ℤ (pos n)) else None

abbrev pub positive : ℕ → Option ℤ
positive n = if nat_lt n 2147483648 then Some (pos n) else None

unfoldable pub signed_of : List ℕ → Option ℤ
signed_of word = if slice_index word 0 == 45 then (word_number (drop 1 word) >>= negative) else (word_number word >>= positive)

unfoldable pub register_of : List ℕ → Option ℕ
register_of word = if bytes_eq word (codes "r0") then Some 0 else if bytes_eq word (codes "r1") then Some 1 else None

unfoldable pub target_of : List ℕ → Option Target
target_of word =
    if bytes_eq word (codes "pass") then Some targets.Pass
    else if bytes_eq word (codes "drop") then Some targets.Drop
    else if slice_index word 0 == 76 then (word_number (drop 1 word) >>= λ n. Some (targets.Label n))
    else None

abbrev pub is_upper : ℕ → Bool
is_upper c = nat_le 65 c && nat_le c 90

abbrev pub few : List ℕ → Option (List ℕ)
few bytes = if nat_lt bytes_limit (length bytes) then None else Some bytes

-- the bytes of lower-case digits
unfoldable pub bytes_of : List ℕ → Option (List ℕ)
bytes_of digits = if list_any is_upper digits then None else (result_ok (decode_of digits) >>= few)

unfoldable pub hex_of : List ℕ → Option (List ℕ)
hex_of word = if slice_index word 0 == 120 then bytes_of (drop 1 word) else None

-- ---- the first word

-- the opcode with this name
unfoldable pub op_named : List ℕ → Option Op
op_named name = find (λ op. bytes_eq (op_name op) name) all_ops

abbrev pub width_of : ℕ → Option ℕ
width_of c = if c == 48 then Some 0 else if c == 49 then Some 1 else if c == 50 then Some 2 else if c == 52 then Some 4 else None

-- the lines that begin with an opcode's name, but for those of ext
abbrev pub op_head : Op → Option Head
op_head Ldb = Some (heads.Load Ldb)
op_head Ldh = Some (heads.Load Ldh)
op_head Ldw = Some (heads.Load Ldw)
op_head Ldbx = Some (heads.Load Ldbx)
op_head Ldhx = Some (heads.Load Ldhx)
op_head Ldwx = Some (heads.Load Ldwx)
op_head Add = Some (heads.Arithmetic Add)
op_head Mul = Some (heads.Arithmetic Mul)
op_head Div = Some (heads.Arithmetic Div)
op_head And = Some (heads.Arithmetic And)
op_head Or = Some (heads.Arithmetic Or)
op_head Sh = Some heads.Shift
op_head Li = Some (heads.Signed Li)
op_head Jmp = Some heads.Jump
op_head Jeq = Some (heads.Compare Jeq)
op_head Jne = Some (heads.Compare Jne)
op_head Jgt = Some (heads.Compare Jgt)
op_head Jlt = Some (heads.Compare Jlt)
op_head Jset = Some (heads.Compare Jset)
op_head Jnebs = Some heads.CompareBytes
op_head Ext = None
op_head Lddw = Some (heads.Signed Lddw)
op_head Stdw = Some (heads.Signed Stdw)

-- the lines that begin with a name that is no opcode's
unfoldable pub other_head : List ℕ → Option Head
other_head word =
    if bytes_eq word (codes "ldm") then Some (heads.Slot 0)
    else if bytes_eq word (codes "stm") then Some (heads.Slot 16)
    else if bytes_eq word (codes "not") then Some (heads.Register 32)
    else if bytes_eq word (codes "neg") then Some (heads.Register 33)
    else if bytes_eq word (codes "swap") then Some heads.Swap
    else if bytes_eq word (codes "move") then Some (heads.Register 35)
    else if bytes_eq word (codes ".byte") then Some heads.Byte
    else None

abbrev pub head_from : Option Op → List ℕ → Option Head
head_from (Some op) word = op_head op
head_from None word = other_head word

abbrev pub dotted_head : List ℕ → ℕ → Option Head
dotted_head name c = do
  op ← op_named name
  width ← width_of c
  Some (heads.Dotted op width)

abbrev pub is_label_word : List ℕ → Bool
is_label_word word = nat_le 2 (length word) && (slice_index word 0 == 76) && (slice_index word (length word - 1) == 58)

abbrev pub is_dotted_word : List ℕ → Bool
is_dotted_word word = nat_le 2 (length word) && (slice_index word (length word - 2) == 46)

-- what the first word says of the line
unfoldable pub head_of : List ℕ → Option Head
head_of word =
    if is_label_word word then (word_number (take (length word - 2) (drop 1 word)) >>= λ n. Some (heads.Label n))
    else if is_dotted_word word then dotted_head (take (length word - 2) word) (slice_index word (length word - 1))
    else head_from (op_named word) word

-- ---- the operands

-- a line without operands
abbrev pub none : List (List ℕ) → Option Item → Option Item
none [] read = read
none _ read = None

-- a line with one operand
abbrev pub one : List (List ℕ) → (List ℕ → Option Item) → Option Item
one (a ∷ []) read = read a
one _ read = None

-- a line with two
abbrev pub two : List (List ℕ) → (List ℕ → List ℕ → Option Item) → Option Item
two (a ∷ b ∷ []) read = read a b
two _ read = None

-- a line with three
abbrev pub three : List (List ℕ) → (List ℕ → List ℕ → List ℕ → Option Item) → Option Item
three (a ∷ b ∷ c ∷ []) read = read a b c
three _ read = None

-- a line with two or three
abbrev pub two_or_three : List (List ℕ) → (List ℕ → List ℕ → Option Item) → (List ℕ → List ℕ → List ℕ → Option Item) → Option Item
two_or_three (a ∷ b ∷ []) short long = short a b
two_or_three (a ∷ b ∷ c ∷ []) short long = long a b c
two_or_three _ short long = None

abbrev pub load_read : Op → List ℕ → List ℕ → Option Item
load_read op r n = do
  reg ← register_of r
  number ← word_number n
  Some (unsigned op reg number)

abbrev pub arithmetic_read : Op → List ℕ → Option Item
arithmetic_read op n = if bytes_eq n (codes "r1") then Some (plain op 1 0 0) else (word_number n >>= λ number. Some (unsigned op 0 number))

abbrev pub shift_read : List ℕ → Option Item
shift_read n = if bytes_eq n (codes "r1") then Some (plain Sh 1 0 0) else (signed_of n >>= λ number. Some (signed Sh 0 number))

abbrev pub signed_read : Op → List ℕ → List ℕ → Option Item
signed_read op r n = do
  reg ← register_of r
  number ← signed_of n
  Some (signed op reg number)

-- a number below a bound
unfoldable pub below : ℕ → List ℕ → Option ℕ
below bound word = word_number word >>= word_below bound

abbrev pub slot_read : ℕ → List ℕ → List ℕ → Option Item
slot_read base r n = do
  reg ← register_of r
  slot ← below 16 n
  Some (unsigned Ext reg (base + slot))

abbrev pub register_read : ℕ → List ℕ → Option Item
register_read code r = register_of r >>= λ reg. Some (unsigned Ext reg code)

abbrev pub jump_read : List ℕ → Option Item
jump_read t = target_of t >>= λ to. Some (jump Jmp 0 0 [] to)

abbrev pub compare_r1_read : Op → List ℕ → Option Item
compare_r1_read op t = target_of t >>= λ to. Some (jump op 1 0 [] to)

abbrev pub compare_number_read : Op → List ℕ → List ℕ → Option Item
compare_number_read op n t = do
  number ← word_number n
  to ← target_of t
  Some (jump op 0 number [] to)

abbrev pub compare_read : Op → List ℕ → List ℕ → Option Item
compare_read op n t = if bytes_eq n (codes "r1") then compare_r1_read op t else compare_number_read op n t

abbrev pub byte_read : List ℕ → Option Item
byte_read n = below 256 n >>= λ b. Some (items.Byte b)

-- a number of at most so many bytes
unfoldable pub fitting : ℕ → List ℕ → Option ℕ
fitting width word = word_number word >>= λ n. if nat_le (least_unsigned n) width then Some n else None

-- an instruction without a second immediate and without counted bytes
abbrev pub short_read : Op → ℕ → List ℕ → List ℕ → Option Item
short_read op width r n = do
  reg ← register_of r
  imm ← fitting width n
  if has_second op reg then None else Some (plain op reg width imm)

-- an instruction with a second immediate
abbrev pub long_read : Op → ℕ → List ℕ → List ℕ → List ℕ → Option Item
long_read op width r n m = do
  reg ← register_of r
  imm ← fitting width n
  second ← fitting width m
  if has_second op reg then Some (given (record { op = op; reg = reg; width = width; imm = imm; second = second; bytes = [] })) else None

-- the item of a line without bytes
unfoldable pub simple_read : Head → List (List ℕ) → Option Item
simple_read (heads.Label n) operands = none operands (Some (items.Label n))
simple_read (heads.Load op) operands = two operands (load_read op)
simple_read (heads.Arithmetic op) operands = one operands (arithmetic_read op)
simple_read heads.Shift operands = one operands shift_read
simple_read (heads.Signed op) operands = two operands (signed_read op)
simple_read (heads.Slot base) operands = two operands (slot_read base)
simple_read (heads.Register code) operands = one operands (register_read code)
simple_read heads.Swap operands = none operands (Some (unsigned Ext 0 34))
simple_read heads.Jump operands = one operands jump_read
simple_read (heads.Compare op) operands = two operands (compare_read op)
simple_read heads.CompareBytes operands = None
simple_read (heads.Dotted op width) operands = two_or_three operands (short_read op width) (long_read op width)
simple_read heads.Byte operands = one operands byte_read

-- the counted bytes of an instruction with a width
unfoldable pub counted_bytes : ℕ → List ℕ → Option (List ℕ)
counted_bytes width word = hex_of word >>= λ bytes. if nat_le (least_unsigned (length bytes)) width then Some bytes else None

-- an instruction with counted bytes
abbrev pub counted_read : ℕ → List ℕ → List ℕ → List ℕ → Option Item
counted_read width r n x = do
  reg ← register_of r
  imm ← fitting width n
  bytes ← counted_bytes width x
  Some (given (record { op = Jnebs; reg = reg; width = width; imm = imm; second = 0; bytes = bytes }))

abbrev pub some_bytes : List ℕ → Option (List ℕ)
some_bytes bytes = if length bytes == 0 then None else Some bytes

abbrev pub compare_bytes_read : List ℕ → List ℕ → Option Item
compare_bytes_read x t = do
  to ← target_of t
  found ← hex_of x
  bytes ← some_bytes found
  Some (jump Jnebs 0 0 bytes to)

-- the item of a line, by its first word and its operands
unfoldable pub item_read : Head → List (List ℕ) → Option Item
item_read heads.CompareBytes operands = two operands compare_bytes_read
item_read (heads.Dotted Jnebs width) operands = three operands (counted_read width)
item_read head operands = simple_read head operands

-- ---- lines

abbrev pub operand_answer : Option Item → Result (Option Item) TextKind
operand_answer (Some item) = Ok (Some item)
operand_answer None = Err kinds.Operand

abbrev pub head_answer : Option Head → List (List ℕ) → Result (Option Item) TextKind
head_answer (Some head) operands = operand_answer (item_read head operands)
head_answer None operands = Err kinds.Word

unfoldable pub words_answer : List (List ℕ) → Result (Option Item) TextKind
words_answer [] = Ok None
words_answer (word ∷ operands) = head_answer (head_of word) operands

-- what a line stands for, or why it is refused
unfoldable pub line_answer : List ℕ → Result (Option Item) TextKind
line_answer line = if list_all is_printable line then words_answer (words_in line) else Err kinds.Ascii

abbrev pub with_items : List Item → Result (List Item) TextError → Result (List Item) TextError
with_items front (Ok items) = Ok (front ++ items)
with_items front (Err e) = Err e

abbrev pub goes_on : Result (Option Item) TextKind → ℕ → Result (List Item) TextError → Result (List Item) TextError
goes_on (Ok found) number later = with_items (option_to_list found) later
goes_on (Err kind) number later = Err (Bad number kind)

-- the lines from one with this number on
unfoldable pub lines_answer : ℕ → List (List ℕ) → Result (List Item) TextError
lines_answer number [] = Ok []
lines_answer number (line ∷ lines) = goes_on (line_answer line) number (lines_answer (number + 1) lines)

-- the items of a text, or its first refused line
abbrev pub text_answer : List ℕ → Result (List Item) TextError
text_answer text = lines_answer 1 (lines_of text)
