-- What is laid out of items in label form is bytes.
use Rattle.std.proofs.Common.{ℕ, zero, suc, ◌<◌, ◌≤◌, Bool, true, false, cond, List, [], ◌∷◌, ◌++◌, length, arith, lit<, lit≤, inl, inr}
use Rattle.std.specs.Prelude.{All}
use Rattle.std.proofs.lemmas.List.Elements.{All-head, All-tail}
use Rattle.apf_coding.specs.declared.instruction.Op.{Op}
use Rattle.apf_coding.specs.declared.instruction.Op.TheVariants.{Ldb}
use Rattle.apf_coding.specs.Words.{big_endian, AreBytes}
use Rattle.apf_coding.specs.Widths.{least_unsigned}
use Rattle.apf_coding.specs.Instruction.{Instruction, opcode_of, has_second, is_counted}
use Rattle.apf_coding.specs.Spelling.{IsWidth, size_of, first_byte, second_of, counted_of, spelling}
use Rattle.apf_coding.proofs.Widths.{least-width, max-width}
use Rattle.apf_asm.specs.declared.item.Item.{Item}
use Rattle.apf_asm.specs.declared.item.Item.TheVariants as items
use Rattle.apf_asm.specs.Items.{fixed_instruction, jump_instruction, IsItemForm, IsLabelled}
use Rattle.apf_asm.specs.Layout.{piece, beside, item_offset, item_width, item_widths, code, layout}

-- ---- lists

bytes-nil : AreBytes []
bytes-nil k = lit< tt

bytes-cons : (b : ℕ) (bytes : List ℕ) → b < 256 → AreBytes bytes → AreBytes (b ∷ bytes)
bytes-cons b bytes lt h zero = lt
bytes-cons b bytes lt h (suc k) = h k

bytes-append : (xs ys : List ℕ) → AreBytes xs → AreBytes ys → AreBytes (xs ++ ys)
bytes-append [] ys h more = more
bytes-append (x ∷ xs) ys h more = bytes-cons x (xs ++ ys) (h 0) (bytes-append xs ys (λ k. h (suc k)) more)

-- those that stand there, or none
bytes-cond : (b : Bool) (bytes : List ℕ) → AreBytes bytes → AreBytes (cond b bytes [])
bytes-cond true bytes h = h
bytes-cond false bytes h = bytes-nil

bytes-big_endian : (width n : ℕ) → AreBytes (big_endian width n)
bytes-big_endian zero n = bytes-nil
bytes-big_endian (suc width) n = bytes-cons _ (big_endian width n) (omega arith) (bytes-big_endian width n)

-- ---- items

number_of-le : (op : Op) → opcode_of op ≤ 23
number_of-le Ldb = lit≤ tt
number_of-le _ = lit≤ tt

size_of-le : (width : ℕ) → IsWidth width → size_of width ≤ 3
size_of-le width is = elim is [ inl p ↦ rw p (lit≤ tt) | inr (inl p) ↦ rw p (lit≤ tt) | inr (inr (inl p)) ↦ rw p (lit≤ tt) | inr (inr (inr p)) ↦ rw p (lit≤ tt) ]

bytes-spelling : (i : Instruction) → i.reg < 2 → IsWidth i.width → AreBytes i.bytes → AreBytes (spelling i)
bytes-spelling i reg width bytes =
    let immediate = bytes-big_endian i.width i.imm in
    let second = bytes-cond (has_second i.op i.reg) (big_endian i.width i.second) (bytes-big_endian i.width i.second) in
    let counted =
    bytes-cond (is_counted i.op) (big_endian i.width (length i.bytes) ++ i.bytes)
    (bytes-append (big_endian i.width (length i.bytes)) i.bytes (bytes-big_endian i.width (length i.bytes)) bytes) in
    bytes-cons (first_byte i) (big_endian i.width i.imm ++ second_of i ++ counted_of i) (omega (arith, number_of-le i.op, size_of-le i.width width))
    (bytes-append (big_endian i.width i.imm ++ second_of i) (counted_of i) (bytes-append (big_endian i.width i.imm) (second_of i) immediate second) counted)

-- an item with the width that its offset asks for
bytes-piece : (item : Item) (offset : ℕ) → IsItemForm item → IsLabelled item → AreBytes (piece item (item_width item offset) offset)
bytes-piece (items.Fixed f) offset form labelled = bytes-spelling (fixed_instruction f) form.well_formed.reg form.well_formed.width form.each_a_byte
bytes-piece (items.Jump j) offset form labelled =
    bytes-spelling (jump_instruction j (item_width (items.Jump j) offset) offset) form.reg
    (max-width (least_unsigned offset) (least_unsigned (beside j)) (least-width offset) (least-width (beside j))) form.each_a_byte
bytes-piece (items.Label l) offset form labelled = bytes-nil
bytes-piece (items.Byte b) offset form labelled = absurd labelled

pub bytes-layout : (xs : List Item) → All IsItemForm xs → All IsLabelled xs → AreBytes (layout xs).bytes
unfolding item_widths code
bytes-layout [] forms labelled = bytes-nil
bytes-layout (item ∷ rest) forms labelled =
    let widths = item_widths rest in
    let offset = item_offset item rest widths in
    bytes-append (piece item (item_width item offset) offset) (code rest widths)
    (bytes-piece item offset (All-head IsItemForm item rest forms) (All-head IsLabelled item rest labelled))
    (bytes-layout rest (All-tail IsItemForm item rest forms) (All-tail IsLabelled item rest labelled))
