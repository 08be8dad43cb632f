-- The items of a text are well formed, and no more than it has bytes.
use Rattle.std.proofs.Common.{◌≡◌, ℕ, ◌+◌, ◌-◌, ◌^◌, ◌<◌, ◌≤◌, Bool, true, false, cond, eqb, ltb, List, [], ◌∷◌, length, Option, Some, None, refl, sym, ap, subst, ◌∙◌, arith, inl, inr}
use Rattle.std.specs.Prelude.{ℤ, pos, negsuc, FitsSigned, All, slice_index}
use Rattle.std.specs.Int.{w32}
use Rattle.std.specs.Option.{option_to_list}
use Rattle.std.proofs.lemmas.Bool.{eqb-true, ltb-true}
use Rattle.std.proofs.lemmas.List.{length-append}
use Rattle.std.proofs.lemmas.List.Elements.{All-nil, All-cons, All-append}
use Rattle.apf_coding.specs.declared.instruction.Op.{Op}
use Rattle.apf_coding.specs.declared.instruction.Op.TheVariants.{Ldb, Ldh, Ldw, Ldbx, Ldhx, Ldwx, Add, Mul, Div, And, Or, Sh, Li, Jmp, Jeq, Jne, Jgt, Jlt, Jset, Jnebs, Ext, Lddw, Stdw}
use Rattle.apf_coding.specs.Widths.{least_unsigned, least_signed}
use Rattle.apf_coding.specs.Instruction.{is_conditional, is_counted, has_second}
use Rattle.apf_coding.specs.Spelling.{IsWidth}
use Rattle.apf_coding.specs.Jumps.{is_jump}
use Rattle.apf_coding.proofs.Widths.{least-width, wider}
use Rattle.apf_asm.specs.declared.item.Target.{Target}
use Rattle.apf_asm.specs.declared.item.Item.{Item}
use Rattle.apf_asm.specs.Items.{IsItemForm, bytes_limit}
use Rattle.apf_asm.specs.TextForms.{Form, Label, Load, Arithmetic, ArithmeticR1, Shift, ShiftR1, Signed, LoadSlot, StoreSlot, Complement, Negate, Swap, Move, Jump, Compare, CompareR1, CompareBytes, Dotted, Byte, item_of, immediate, plain, unsigned, signed, jump, IsWord, IsAllowed, Denotes}
use Rattle.plain_text.specs.Lines.{lines_of}
use Rattle.apf_asm.specs.TextLines.{Stands, AreRead, TextReads}
use Rattle.apf_asm.proofs.TextItems.{one_fits}
use Rattle.plain_text.proofs.LineCounts as line_counts

-- ---- instructions without a second immediate and without bytes

plain_form : (op : Op) (reg width imm : ℕ) → reg < 2 → IsWidth width → imm < 256 ^ width → IsItemForm (plain op reg width imm)
plain_form op reg width imm bit fits lt =
    let none = one_fits width fits in
    record { well_formed = record { reg = bit; width = fits; imm = lt; second = none; no_second = λ h. refl; bytes = none; no_bytes = λ h. refl }; each_a_byte = λ k. omega arith; short = omega arith }

unsigned_form : (op : Op) (reg n : ℕ) → reg < 2 → IsWord n → IsItemForm (unsigned op reg n)
unsigned_form op reg n bit small = plain_form op reg (least_unsigned n) n bit (least-width n) (wider n (least_unsigned n) (least-width n) small (omega arith))

-- ---- the bits of a signed number

positive_width : (n : ℕ) (a b c : Bool) → eqb n 0 ≡ a → ltb n 128 ≡ b → ltb n 32768 ≡ c → n < 2 ^ 31
    → IsWidth (cond a 0 (cond b 1 (cond c 2 4))) × (n < 256 ^ cond a 0 (cond b 1 (cond c 2 4)))
positive_width n true b c p q r small = (inl refl, (let e = eqb-true n 0 p in omega arith))
positive_width n false true c p q r small = (inr (inl refl), (let lt = ltb-true n 128 q in omega arith))
positive_width n false false true p q r small = (inr (inr (inl refl)), (let lt = ltb-true n 32768 r in omega arith))
positive_width n false false false p q r small = (inr (inr (inr refl)), omega arith)

negative_width : (n : ℕ) (b c : Bool) → ltb n 128 ≡ b → ltb n 32768 ≡ c → n < 2 ^ 31
    → IsWidth (cond b 1 (cond c 2 4)) × (256 ^ cond b 1 (cond c 2 4) - (n + 1) < 256 ^ cond b 1 (cond c 2 4))
negative_width n true c q r small = (inr (inl refl), omega arith)
negative_width n false true q r small = (inr (inr (inl refl)), omega arith)
negative_width n false false q r small = (inr (inr (inr refl)), omega arith)

signed_width : (z : ℤ) → FitsSigned w32 z → IsWidth (least_signed z) × (immediate z < 256 ^ least_signed z)
signed_width (pos n) fits = positive_width n (eqb n 0) (ltb n 128) (ltb n 32768) refl refl refl fits.sfits
signed_width (negsuc n) fits = negative_width n (ltb n 128) (ltb n 32768) refl refl fits.sfits

signed_form : (op : Op) (reg : ℕ) (z : ℤ) → reg < 2 → FitsSigned w32 z → IsItemForm (signed op reg z)
signed_form op reg z bit fits = let s = signed_width z fits in plain_form op reg (least_signed z) (immediate z) bit s.0 s.1

-- ---- jumps

conditional_jumps : (op : Op) → is_conditional op ≡ true → (is_jump op ≡ true) × (is_counted op ≡ false)
conditional_jumps Ldb t = absurd cc
conditional_jumps Ldh t = absurd cc
conditional_jumps Ldw t = absurd cc
conditional_jumps Ldbx t = absurd cc
conditional_jumps Ldhx t = absurd cc
conditional_jumps Ldwx t = absurd cc
conditional_jumps Add t = absurd cc
conditional_jumps Mul t = absurd cc
conditional_jumps Div t = absurd cc
conditional_jumps And t = absurd cc
conditional_jumps Or t = absurd cc
conditional_jumps Sh t = absurd cc
conditional_jumps Li t = absurd cc
conditional_jumps Jmp t = absurd cc
conditional_jumps Jeq t = (refl, refl)
conditional_jumps Jne t = (refl, refl)
conditional_jumps Jgt t = (refl, refl)
conditional_jumps Jlt t = (refl, refl)
conditional_jumps Jset t = (refl, refl)
conditional_jumps Jnebs t = absurd cc
conditional_jumps Ext t = absurd cc
conditional_jumps Lddw t = absurd cc
conditional_jumps Stdw t = absurd cc

jump_form : (to : Target) → IsItemForm (jump Jmp 0 0 [] to)
jump_form to = record { op = refl; reg = omega arith; no_reg = λ h. refl; second = omega arith; no_second = λ h. refl; no_bytes = λ h. refl; some_bytes = λ h. absurd cc; each_a_byte = λ k. omega arith; short = omega arith }

second_told : (op : Op) → is_conditional op ≡ true → has_second op 0 ≡ true
second_told op c = rw c refl

compare_form : (op : Op) (n : ℕ) (to : Target) → is_conditional op ≡ true → IsWord n → IsItemForm (jump op 0 n [] to)
compare_form op n to c small =
    let k = conditional_jumps op c in
    let has = second_told op c in
    let no_count = k.1 in
    record { op = k.0; reg = omega arith; no_reg = λ h. refl; second = small; no_second = λ h. absurd (both has h); no_bytes = λ h. refl; some_bytes = λ h. absurd (both h no_count); each_a_byte = λ k. omega arith; short = omega arith }
  where
    both : {b : Bool} → b ≡ true → b ≡ false → ⊥
    both p q = let e : true ≡ false = sym p ∙ q in absurd cc

compare_r1_form : (op : Op) (to : Target) → is_conditional op ≡ true → IsItemForm (jump op 1 0 [] to)
compare_r1_form op to c =
    let k = conditional_jumps op c in
    let no_count = k.1 in
    record { op = k.0; reg = omega arith; no_reg = λ h. absurd (both c h); second = omega arith; no_second = λ h. refl; no_bytes = λ h. refl; some_bytes = λ h. absurd (both h no_count); each_a_byte = λ k. omega arith; short = omega arith }
  where
    both : {b : Bool} → b ≡ true → b ≡ false → ⊥
    both p q = let e : true ≡ false = sym p ∙ q in absurd cc

bytes_form : (bytes : List ℕ) (to : Target) → ((k : ℕ) → slice_index bytes k < 256) → 0 < length bytes → length bytes ≤ bytes_limit → IsItemForm (jump Jnebs 0 0 bytes to)
bytes_form bytes to each some long = record { op = refl; reg = omega arith; no_reg = λ h. refl; second = omega arith; no_second = λ h. refl; no_bytes = λ h. absurd cc; some_bytes = λ h. some; each_a_byte = each; short = long }

-- ---- every form

form_shape : (f : Form) → IsAllowed f → IsItemForm (item_of f)
form_shape (Label n) a = tt
form_shape (Load op reg n) a = unsigned_form op reg n a.1 a.2
form_shape (Arithmetic op n) a = unsigned_form op 0 n (omega arith) a.1
form_shape (ArithmeticR1 op) a = plain_form op 1 0 0 (omega arith) (inl refl) (omega arith)
form_shape (Shift z) a = signed_form Sh 0 z (omega arith) a
form_shape ShiftR1 a = plain_form Sh 1 0 0 (omega arith) (inl refl) (omega arith)
form_shape (Signed op reg z) a = signed_form op reg z a.1 a.2
form_shape (LoadSlot reg slot) a = let small = a.1 in unsigned_form Ext reg slot a.0 (omega arith)
form_shape (StoreSlot reg slot) a = let small = a.1 in unsigned_form Ext reg (16 + slot) a.0 (omega arith)
form_shape (Complement reg) a = unsigned_form Ext reg 32 a (omega arith)
form_shape (Negate reg) a = unsigned_form Ext reg 33 a (omega arith)
form_shape Swap a = unsigned_form Ext 0 34 (omega arith) (omega arith)
form_shape (Move reg) a = unsigned_form Ext reg 35 a (omega arith)
form_shape (Jump to) a = jump_form to
form_shape (Compare op n to) a = compare_form op n to a.0 a.1
form_shape (CompareR1 op to) a = compare_r1_form op to a.0
form_shape (CompareBytes bytes to) a = bytes_form bytes to a.0 a.1 a.2
form_shape (Dotted i) a = record { well_formed = a.0; each_a_byte = a.1; short = a.2 }
form_shape (Byte b) a = tt

pub item_shape : (words : List (List ℕ)) (item : Item) → Denotes words item → IsItemForm item
item_shape words item d = subst IsItemForm (sym d.item_is) (form_shape d.form d.allowed)

found_shape : (words : List (List ℕ)) (found : Option Item) → Stands words found → All IsItemForm (option_to_list found)
found_shape words None s = All-nil IsItemForm
found_shape words (Some item) s = All-cons IsItemForm item [] (item_shape words item s) (All-nil IsItemForm)

-- ---- texts

lines_shape : (lines : List (List ℕ)) (items : List Item) → AreRead lines items → All IsItemForm items
lines_shape [] items r = subst (λ (is : List Item). All IsItemForm is) (sym r) (All-nil IsItemForm)
lines_shape (line ∷ lines) items r =
    subst (λ (is : List Item). All IsItemForm is) (sym r.4) (All-append IsItemForm (option_to_list r.0) r.1 (found_shape _ r.0 r.2.stands) (lines_shape lines r.1 r.3))

pub text_shape : (text : List ℕ) (items : List Item) → TextReads text items → All IsItemForm items
text_shape text items r = lines_shape (lines_of text) items r

found_few : (found : Option Item) → length (option_to_list found) ≤ 1
found_few None = omega arith
found_few (Some item) = omega arith

lines_few : (lines : List (List ℕ)) (items : List Item) → AreRead lines items → length items ≤ length lines
lines_few [] items r = rw r (omega arith)
lines_few (line ∷ lines) items r =
    let one = found_few r.0 in
    let more = lines_few lines r.1 r.3 in
    omega (arith, ap length r.4, length-append (option_to_list r.0) r.1)

pub text_few : (text : List ℕ) (items : List Item) → TextReads text items → length items ≤ length text
text_few text items r = let a = lines_few (lines_of text) items r in let b = line_counts.lines_few text in omega arith
