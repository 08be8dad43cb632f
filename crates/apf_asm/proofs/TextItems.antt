-- The words of a form are read as its item, and what is read is of a form.
use Rattle.std.proofs.Common.{◌≡◌, ℕ, zero, suc, ◌+◌, ◌^◌, ◌<◌, ◌≤◌, ◌⊎◌, Bool, true, false, cond, List, [], ◌∷◌, ◌++◌, length, get_or, Option, Some, None, Ok, refl, sym, ap, subst, ◌∙◌, arith, inl, inr, zero-add}
use Rattle.std.specs.Prelude.{codes, ℤ, pos, negsuc, FitsSigned}
use Rattle.std.specs.Int.{w32}
use Rattle.std.specs.Fmt.{decimal, signed_decimal}
use Rattle.std.specs.Str.{bytes_eq}
use Rattle.std.specs.Char.{is_ascii_digit}
use Rattle.std.specs.List.{list_all}
use Rattle.std.proofs.lemmas.Bool.{and_parts, ne_eqb}
use Rattle.std.proofs.lemmas.Bool.Decides.{nat_tests}
use Rattle.std.proofs.lemmas.Fmt.{decimal_digit, decimal_nonempty, digits_decimal}
use Rattle.hex.specs.Hex.{IsBytes}
use Rattle.apf_coding.specs.declared.instruction.Op.{Op}
use Rattle.apf_coding.specs.declared.instruction.Op.TheVariants.{Ldb, Ldh, Ldw, Ldbx, Ldhx, Ldwx, Add, Mul, Div, And, Or, Sh, Li, Jmp, Jeq, Jne, Jgt, Jlt, Jset, Jnebs, Ext, Lddw, Stdw}
use Rattle.apf_coding.specs.Instruction.{Instruction, is_conditional, is_counted, has_second}
use Rattle.apf_coding.specs.Spelling.{IsWidth, IsWellFormed}
use Rattle.apf_coding.specs.Names.{op_name}
use Rattle.apf_coding.specs.Reading.{◌>>=◌}
use Rattle.apf_coding.proofs.Fields.{bind_some, some_is}
use Rattle.apf_asm.specs.declared.item.Target.{Target}
use Rattle.apf_asm.specs.declared.item.Item.{Item}
use Rattle.apf_asm.specs.declared.item.Item.TheVariants as items
use Rattle.apf_asm.specs.declared.text_head.Head.{Head}
use Rattle.apf_asm.specs.declared.text_head.Head.TheVariants as heads
use Rattle.apf_asm.specs.TextForms.{Form, Label, Load, Arithmetic, ArithmeticR1, Shift, ShiftR1, Signed, LoadSlot, StoreSlot, Complement, Negate, Swap, Move, Jump, Compare, CompareR1, CompareBytes, Dotted, Byte, register_word, target_word, hex_word, dotted_word, second_words, counted_words, words_of, item_of, plain, unsigned, signed, jump, given, is_load, is_arithmetic, is_signed, IsWord, IsTarget, IsAllowed, Denotes}
use Rattle.apf_asm.specs.TextReading.{word_number, signed_of, register_of, target_of, hex_of, some_bytes, below, fitting, counted_bytes, none, one, two, three, two_or_three, load_read, arithmetic_read, shift_read, signed_read, slot_read, register_read, jump_read, compare_r1_read, compare_number_read, compare_read, byte_read, short_read, long_read, simple_read, counted_read, compare_bytes_read, item_read, op_named, other_head, head_of, words_answer}
use Rattle.plain_text.proofs.Numerals.{own}
use Rattle.apf_asm.proofs.TextNumbers.{number_of_is, number_of-decimal}
use Rattle.apf_asm.proofs.TextWords.{Hex, chosen, register_of_is, register_of-word, below_is, below-decimal, fitting_is, fitting-decimal, signed_of_is, signed_of-decimal, target_of_is, target_of-word, hex_of_is, hex_of-word, counted_is, counted-word, some_bytes_is, some_bytes-some}
use Rattle.apf_asm.proofs.TextHeads.{IsHead, head_of-label, head_of-dotted, head_of-load, head_of-arithmetic, head_of-signed, head_of-compare}
use Rattle.apf_asm.specs.Items.{bytes_limit}

-- ---- operands by their number

none_is : (ops : List (List ℕ)) (read : Option Item) (item : Item) → none ops read ≡ Some item → (ops ≡ []) × (read ≡ Some item)
none_is [] read item e = (refl, e)
none_is (a ∷ ops) read item e = absurd cc

one_is : (ops : List (List ℕ)) (read : List ℕ → Option Item) (item : Item) → one ops read ≡ Some item → (a : List ℕ) × (ops ≡ a ∷ []) × (read a ≡ Some item)
one_is [] read item e = absurd cc
one_is (a ∷ []) read item e = (a, refl, e)
one_is (a ∷ b ∷ ops) read item e = absurd cc

two_is : (ops : List (List ℕ)) (read : List ℕ → List ℕ → Option Item) (item : Item) → two ops read ≡ Some item → (a : List ℕ) × (b : List ℕ) × (ops ≡ a ∷ b ∷ []) × (read a b ≡ Some item)
two_is [] read item e = absurd cc
two_is (a ∷ []) read item e = absurd cc
two_is (a ∷ b ∷ []) read item e = (a, b, refl, e)
two_is (a ∷ b ∷ c ∷ ops) read item e = absurd cc

three_is : (ops : List (List ℕ)) (read : List ℕ → List ℕ → List ℕ → Option Item) (item : Item) → three ops read ≡ Some item → (a : List ℕ) × (b : List ℕ) × (c : List ℕ) × (ops ≡ a ∷ b ∷ c ∷ []) × (read a b c ≡ Some item)
three_is [] read item e = absurd cc
three_is (a ∷ []) read item e = absurd cc
three_is (a ∷ b ∷ []) read item e = absurd cc
three_is (a ∷ b ∷ c ∷ []) read item e = (a, b, c, refl, e)
three_is (a ∷ b ∷ c ∷ d ∷ ops) read item e = absurd cc

two_or_three_is : (ops : List (List ℕ)) (short : List ℕ → List ℕ → Option Item) (long : List ℕ → List ℕ → List ℕ → Option Item) (item : Item) → two_or_three ops short long ≡ Some item
    → ((a : List ℕ) × (b : List ℕ) × (ops ≡ a ∷ b ∷ []) × (short a b ≡ Some item)) ⊎ ((a : List ℕ) × (b : List ℕ) × (c : List ℕ) × (ops ≡ a ∷ b ∷ c ∷ []) × (long a b c ≡ Some item))
two_or_three_is [] short long item e = absurd cc
two_or_three_is (a ∷ []) short long item e = absurd cc
two_or_three_is (a ∷ b ∷ []) short long item e = inl (a, b, refl, e)
two_or_three_is (a ∷ b ∷ c ∷ []) short long item e = inr (a, b, c, refl, e)
two_or_three_is (a ∷ b ∷ c ∷ d ∷ ops) short long item e = absurd cc

one_word : (w v : List ℕ) (ops : List (List ℕ)) → w ≡ v → ops ≡ [] → w ∷ ops ≡ v ∷ []
one_word w v ops p q = cc

two_words : (w v a x : List ℕ) (ops : List (List ℕ)) → w ≡ v → ops ≡ a ∷ [] → a ≡ x → w ∷ ops ≡ v ∷ x ∷ []
two_words w v a x ops p q r = cc

three_words : (w v a x b y : List ℕ) (ops : List (List ℕ)) → w ≡ v → ops ≡ a ∷ b ∷ [] → a ≡ x → b ≡ y → w ∷ ops ≡ v ∷ x ∷ y ∷ []
three_words w v a x b y ops p q r s = cc

four_words : (w v a x b y c z : List ℕ) (ops : List (List ℕ)) → w ≡ v → ops ≡ a ∷ b ∷ c ∷ [] → a ≡ x → b ≡ y → c ≡ z → w ∷ ops ≡ v ∷ x ∷ y ∷ z ∷ []
four_words w v a x b y c z ops p q r s t = cc

denoted : (f : Form) (words : List (List ℕ)) (item : Item) → IsAllowed f → words ≡ words_of f → Some (item_of f) ≡ Some item → Denotes words item
denoted f words item allowed e i = record { form = f; allowed = allowed; words_are = e; item_is = sym (some_is (item_of f) item i) }

-- ---- what is read is of a form

load_is : (op : Op) (w : List ℕ) (ops : List (List ℕ)) (item : Item) → is_load op ≡ true → w ≡ op_name op → two ops (load_read op) ≡ Some item → Denotes (w ∷ ops) item
load_is op w ops item t s e =
    let o = two_is ops (load_read op) item e in
    let r = bind_some (register_of o.0) (λ reg. word_number o.1 >>= λ number. Some (unsigned op reg number)) item o.3 in
    let n = bind_some (word_number o.1) (λ number. Some (unsigned op r.0 number)) item r.2 in
    let reg = register_of_is o.0 r.0 r.1 in
    let number = number_of_is o.1 n.0 n.1 in
    denoted (Load op r.0 n.0) (w ∷ ops) item (t, reg.0, number.0) (three_words w (op_name op) o.0 (register_word r.0) o.1 (decimal n.0) ops s o.2 reg.1 number.1) n.2

arithmetic_is : (op : Op) (w : List ℕ) (ops : List (List ℕ)) (item : Item) → is_arithmetic op ≡ true → w ≡ op_name op → one ops (arithmetic_read op) ≡ Some item → Denotes (w ∷ ops) item
arithmetic_is op w ops item t s e =
    let o = one_is ops (arithmetic_read op) item e in
    elim (chosen o.0 (codes "r1") (bytes_eq o.0 (codes "r1")) (Some (plain op 1 0 0)) (word_number o.0 >>= λ number. Some (unsigned op 0 number)) item refl o.2) [
      | inl r1 ↦ denoted (ArithmeticR1 op) (w ∷ ops) item t (two_words w (op_name op) o.0 (register_word 1) ops s o.1 r1.0) r1.1
      | inr plain_number ↦
          let n = bind_some (word_number o.0) (λ number. Some (unsigned op 0 number)) item plain_number in
          let number = number_of_is o.0 n.0 n.1 in
          denoted (Arithmetic op n.0) (w ∷ ops) item (t, number.0) (two_words w (op_name op) o.0 (decimal n.0) ops s o.1 number.1) n.2
    ]

shift_is : (w : List ℕ) (ops : List (List ℕ)) (item : Item) → w ≡ codes "sh" → one ops shift_read ≡ Some item → Denotes (w ∷ ops) item
shift_is w ops item s e =
    let o = one_is ops shift_read item e in
    elim (chosen o.0 (codes "r1") (bytes_eq o.0 (codes "r1")) (Some (plain Sh 1 0 0)) (signed_of o.0 >>= λ number. Some (signed Sh 0 number)) item refl o.2) [
      | inl r1 ↦ denoted ShiftR1 (w ∷ ops) item tt (two_words w (codes "sh") o.0 (register_word 1) ops s o.1 r1.0) r1.1
      | inr plain_number ↦
          let n = bind_some (signed_of o.0) (λ number. Some (signed Sh 0 number)) item plain_number in
          let number = signed_of_is o.0 n.0 n.1 in
          denoted (Shift n.0) (w ∷ ops) item number.0 (two_words w (codes "sh") o.0 (signed_decimal n.0) ops s o.1 number.1) n.2
    ]

signed_is : (op : Op) (w : List ℕ) (ops : List (List ℕ)) (item : Item) → is_signed op ≡ true → w ≡ op_name op → two ops (signed_read op) ≡ Some item → Denotes (w ∷ ops) item
signed_is op w ops item t s e =
    let o = two_is ops (signed_read op) item e in
    let r = bind_some (register_of o.0) (λ reg. signed_of o.1 >>= λ number. Some (signed op reg number)) item o.3 in
    let n = bind_some (signed_of o.1) (λ number. Some (signed op r.0 number)) item r.2 in
    let reg = register_of_is o.0 r.0 r.1 in
    let number = signed_of_is o.1 n.0 n.1 in
    denoted (Signed op r.0 n.0) (w ∷ ops) item (t, reg.0, number.0) (three_words w (op_name op) o.0 (register_word r.0) o.1 (signed_decimal n.0) ops s o.2 reg.1 number.1) n.2

slot_is : (base : ℕ) (w : List ℕ) (ops : List (List ℕ)) (item : Item) → ((base ≡ 0) × (w ≡ codes "ldm")) ⊎ ((base ≡ 16) × (w ≡ codes "stm")) → two ops (slot_read base) ≡ Some item → Denotes (w ∷ ops) item
slot_is base w ops item which e =
    let o = two_is ops (slot_read base) item e in
    let r = bind_some (register_of o.0) (λ reg. below 16 o.1 >>= λ slot. Some (unsigned Ext reg (base + slot))) item o.3 in
    let n = bind_some (below 16 o.1) (λ slot. Some (unsigned Ext r.0 (base + slot))) item r.2 in
    let reg = register_of_is o.0 r.0 r.1 in
    let slot = below_is 16 o.1 n.0 n.1 in
    elim which [
      | inl ldm ↦
          let sum : n.0 ≡ base + n.0 = let none = ldm.0 in omega arith in
          denoted (LoadSlot r.0 n.0) (w ∷ ops) item (reg.0, slot.0) (three_words w (codes "ldm") o.0 (register_word r.0) o.1 (decimal n.0) ops ldm.1 o.2 reg.1 slot.1) (ap (λ (k : ℕ). Some (unsigned Ext r.0 k)) sum ∙ n.2)
      | inr stm ↦
          let sum : 16 + n.0 ≡ base + n.0 = let sixteen = stm.0 in omega arith in
          denoted (StoreSlot r.0 n.0) (w ∷ ops) item (reg.0, slot.0) (three_words w (codes "stm") o.0 (register_word r.0) o.1 (decimal n.0) ops stm.1 o.2 reg.1 slot.1) (ap (λ (k : ℕ). Some (unsigned Ext r.0 k)) sum ∙ n.2)
    ]

register_is : (code : ℕ) (w : List ℕ) (ops : List (List ℕ)) (item : Item) → IsHead (heads.Register code) w → one ops (register_read code) ≡ Some item → Denotes (w ∷ ops) item
register_is code w ops item which e =
    let o = one_is ops (register_read code) item e in
    let r = bind_some (register_of o.0) (λ reg. Some (unsigned Ext reg code)) item o.2 in
    let reg = register_of_is o.0 r.0 r.1 in
    elim which [
      | inl nots ↦ denoted (Complement r.0) (w ∷ ops) item reg.0 (two_words w (codes "not") o.0 (register_word r.0) ops nots.1 o.1 reg.1) (ap (λ (k : ℕ). Some (unsigned Ext r.0 k)) (sym nots.0) ∙ r.2)
      | inr (inl neg) ↦ denoted (Negate r.0) (w ∷ ops) item reg.0 (two_words w (codes "neg") o.0 (register_word r.0) ops neg.1 o.1 reg.1) (ap (λ (k : ℕ). Some (unsigned Ext r.0 k)) (sym neg.0) ∙ r.2)
      | inr (inr moves) ↦ denoted (Move r.0) (w ∷ ops) item reg.0 (two_words w (codes "move") o.0 (register_word r.0) ops moves.1 o.1 reg.1) (ap (λ (k : ℕ). Some (unsigned Ext r.0 k)) (sym moves.0) ∙ r.2)
    ]

jump_is : (w : List ℕ) (ops : List (List ℕ)) (item : Item) → w ≡ codes "jmp" → one ops jump_read ≡ Some item → Denotes (w ∷ ops) item
jump_is w ops item s e =
    let o = one_is ops jump_read item e in
    let t = bind_some (target_of o.0) (λ to. Some (jump Jmp 0 0 [] to)) item o.2 in
    let to = target_of_is o.0 t.0 t.1 in
    denoted (Jump t.0) (w ∷ ops) item to.0 (two_words w (codes "jmp") o.0 (target_word t.0) ops s o.1 to.1) t.2

compare_is : (op : Op) (w : List ℕ) (ops : List (List ℕ)) (item : Item) → is_conditional op ≡ true → w ≡ op_name op → two ops (compare_read op) ≡ Some item → Denotes (w ∷ ops) item
compare_is op w ops item c s e =
    let o = two_is ops (compare_read op) item e in
    elim (chosen o.0 (codes "r1") (bytes_eq o.0 (codes "r1")) (compare_r1_read op o.1) (compare_number_read op o.0 o.1) item refl o.3) [
      | inl r1 ↦
          let t = bind_some (target_of o.1) (λ to. Some (jump op 1 0 [] to)) item r1.1 in
          let to = target_of_is o.1 t.0 t.1 in
          denoted (CompareR1 op t.0) (w ∷ ops) item (c, to.0) (three_words w (op_name op) o.0 (register_word 1) o.1 (target_word t.0) ops s o.2 r1.0 to.1) t.2
      | inr plain_number ↦
          let n = bind_some (word_number o.0) (λ number. target_of o.1 >>= λ to. Some (jump op 0 number [] to)) item plain_number in
          let t = bind_some (target_of o.1) (λ to. Some (jump op 0 n.0 [] to)) item n.2 in
          let number = number_of_is o.0 n.0 n.1 in
          let to = target_of_is o.1 t.0 t.1 in
          denoted (Compare op n.0 t.0) (w ∷ ops) item (c, number.0, to.0) (three_words w (op_name op) o.0 (decimal n.0) o.1 (target_word t.0) ops s o.2 number.1 to.1) t.2
    ]

compare_bytes_is : (w : List ℕ) (ops : List (List ℕ)) (item : Item) → w ≡ codes "jnebs" → two ops compare_bytes_read ≡ Some item → Denotes (w ∷ ops) item
compare_bytes_is w ops item s e =
    let o = two_is ops compare_bytes_read item e in
    let t = bind_some (target_of o.1) (λ to. hex_of o.0 >>= λ found. some_bytes found >>= λ bytes. Some (jump Jnebs 0 0 bytes to)) item o.3 in
    let x = bind_some (hex_of o.0) (λ found. some_bytes found >>= λ bytes. Some (jump Jnebs 0 0 bytes t.0)) item t.2 in
    let b = bind_some (some_bytes x.0) (λ bytes. Some (jump Jnebs 0 0 bytes t.0)) item x.2 in
    let to = target_of_is o.1 t.0 t.1 in
    let some = some_bytes_is x.0 b.0 b.1 in
    let h = subst (λ (bytes : List ℕ). Hex o.0 bytes) some.0 (hex_of_is o.0 x.0 x.1) in
    denoted (CompareBytes b.0 t.0) (w ∷ ops) item (h.bytes_fit, some.1, h.long, to.0) (three_words w (codes "jnebs") o.0 (hex_word b.0) o.1 (target_word t.0) ops s o.2 h.text to.1) b.2

byte_is : (w : List ℕ) (ops : List (List ℕ)) (item : Item) → w ≡ codes ".byte" → one ops byte_read ≡ Some item → Denotes (w ∷ ops) item
byte_is w ops item s e =
    let o = one_is ops byte_read item e in
    let n = bind_some (below 256 o.0) (λ b. Some (items.Byte b)) item o.2 in
    let number = below_is 256 o.0 n.0 n.1 in
    denoted (Byte n.0) (w ∷ ops) item number.0 (two_words w (codes ".byte") o.0 (decimal n.0) ops s o.1 number.1) n.2

-- ---- dotted lines

pub one_fits : (w : ℕ) → IsWidth w → 0 < 256 ^ w
one_fits w width = elim width [ inl p ↦ rw p (omega arith) | inr (inl p) ↦ rw p (omega arith) | inr (inr (inl p)) ↦ rw p (omega arith) | inr (inr (inr p)) ↦ rw p (omega arith) ]

item_read-dotted : (op : Op) (width : ℕ) (ops : List (List ℕ)) → is_counted op ≡ false → item_read (heads.Dotted op width) ops ≡ two_or_three ops (short_read op width) (long_read op width)
unfolding item_read simple_read
item_read-dotted Ldb width ops t = refl
item_read-dotted Ldh width ops t = refl
item_read-dotted Ldw width ops t = refl
item_read-dotted Ldbx width ops t = refl
item_read-dotted Ldhx width ops t = refl
item_read-dotted Ldwx width ops t = refl
item_read-dotted Add width ops t = refl
item_read-dotted Mul width ops t = refl
item_read-dotted Div width ops t = refl
item_read-dotted And width ops t = refl
item_read-dotted Or width ops t = refl
item_read-dotted Sh width ops t = refl
item_read-dotted Li width ops t = refl
item_read-dotted Jmp width ops t = refl
item_read-dotted Jeq width ops t = refl
item_read-dotted Jne width ops t = refl
item_read-dotted Jgt width ops t = refl
item_read-dotted Jlt width ops t = refl
item_read-dotted Jset width ops t = refl
item_read-dotted Jnebs width ops t = absurd cc
item_read-dotted Ext width ops t = refl
item_read-dotted Lddw width ops t = refl
item_read-dotted Stdw width ops t = refl

counted_op : (op : Op) → is_counted op ≡ true → op ≡ Jnebs
counted_op Ldb t = absurd cc
counted_op Ldh t = absurd cc
counted_op Ldw t = absurd cc
counted_op Ldbx t = absurd cc
counted_op Ldhx t = absurd cc
counted_op Ldwx t = absurd cc
counted_op Add t = absurd cc
counted_op Mul t = absurd cc
counted_op Div t = absurd cc
counted_op And t = absurd cc
counted_op Or t = absurd cc
counted_op Sh t = absurd cc
counted_op Li t = absurd cc
counted_op Jmp t = absurd cc
counted_op Jeq t = absurd cc
counted_op Jne t = absurd cc
counted_op Jgt t = absurd cc
counted_op Jlt t = absurd cc
counted_op Jset t = absurd cc
counted_op Jnebs t = refl
counted_op Ext t = absurd cc
counted_op Lddw t = absurd cc
counted_op Stdw t = absurd cc

unless_is : (b : Bool) (x y : Item) → cond b None (Some x) ≡ Some y → (b ≡ false) × (Some x ≡ Some y)
unless_is true x y e = absurd cc
unless_is false x y e = (refl, e)

where_is : (b : Bool) (x y : Item) → cond b (Some x) None ≡ Some y → (b ≡ true) × (Some x ≡ Some y)
where_is true x y e = (refl, e)
where_is false x y e = absurd cc

no_tail : (second : ℕ) (bytes : List ℕ) (a b : Bool) → a ≡ false → b ≡ false → cond a (decimal second ∷ []) [] ++ cond b (hex_word bytes ∷ []) [] ≡ []
no_tail second bytes a b p q = rw (p, q) refl

second_tail : (second : ℕ) (bytes : List ℕ) (a b : Bool) → a ≡ true → b ≡ false → cond a (decimal second ∷ []) [] ++ cond b (hex_word bytes ∷ []) [] ≡ decimal second ∷ []
second_tail second bytes a b p q = rw (p, q) refl

short_words : (op : Op) (reg width imm : ℕ) (w a b : List ℕ) (ops : List (List ℕ)) → w ≡ dotted_word op width → ops ≡ a ∷ b ∷ [] → a ≡ register_word reg → b ≡ decimal imm → has_second op reg ≡ false → is_counted op ≡ false
    → w ∷ ops ≡ words_of (Dotted (record { op = op; reg = reg; width = width; imm = imm; second = 0; bytes = [] }))
short_words op reg width imm w a b ops s o ea eb has counts =
    three_words w (dotted_word op width) a (register_word reg) b (decimal imm) ops s o ea eb
    ∙ ap (λ (t : List (List ℕ)). dotted_word op width ∷ register_word reg ∷ decimal imm ∷ t) (sym (no_tail 0 [] (has_second op reg) (is_counted op) has counts))

long_words : (op : Op) (reg width imm second : ℕ) (w a b c : List ℕ) (ops : List (List ℕ)) → w ≡ dotted_word op width → ops ≡ a ∷ b ∷ c ∷ [] → a ≡ register_word reg → b ≡ decimal imm → c ≡ decimal second → has_second op reg ≡ true → is_counted op ≡ false
    → w ∷ ops ≡ words_of (Dotted (record { op = op; reg = reg; width = width; imm = imm; second = second; bytes = [] }))
long_words op reg width imm second w a b c ops s o ea eb ec has counts =
    four_words w (dotted_word op width) a (register_word reg) b (decimal imm) c (decimal second) ops s o ea eb ec
    ∙ ap (λ (t : List (List ℕ)). dotted_word op width ∷ register_word reg ∷ decimal imm ∷ t) (sym (second_tail second [] (has_second op reg) (is_counted op) has counts))

short_is : (op : Op) (width : ℕ) (w a b : List ℕ) (ops : List (List ℕ)) (item : Item) → IsWidth width → is_counted op ≡ false → w ≡ dotted_word op width → ops ≡ a ∷ b ∷ [] → short_read op width a b ≡ Some item → Denotes (w ∷ ops) item
short_is op width w a b ops item fits counts s o e =
    let r = bind_some (register_of a) (λ reg. fitting width b >>= λ imm. cond (has_second op reg) None (Some (plain op reg width imm))) item e in
    let n = bind_some (fitting width b) (λ imm. cond (has_second op r.0) None (Some (plain op r.0 width imm))) item r.2 in
    let u = unless_is (has_second op r.0) (plain op r.0 width n.0) item n.2 in
    let reg = register_of_is a r.0 r.1 in
    let number = fitting_is width b n.0 fits n.1 in
    let zero_fits = one_fits width fits in
    let i : Instruction = record { op = op; reg = r.0; width = width; imm = n.0; second = 0; bytes = [] } in
    let good : IsWellFormed i = record { reg = reg.0; width = fits; imm = number.0; second = zero_fits; no_second = λ h. refl; bytes = zero_fits; no_bytes = λ h. refl } in
    let small : length i.bytes ≤ bytes_limit = omega arith in
    denoted (Dotted i) (w ∷ ops) item (good, (λ k. omega arith), small) (short_words op r.0 width n.0 w a b ops s o reg.1 number.1 u.0 counts) u.1

long_is : (op : Op) (width : ℕ) (w a b c : List ℕ) (ops : List (List ℕ)) (item : Item) → IsWidth width → is_counted op ≡ false → w ≡ dotted_word op width → ops ≡ a ∷ b ∷ c ∷ [] → long_read op width a b c ≡ Some item → Denotes (w ∷ ops) item
long_is op width w a b c ops item fits counts s o e =
    let full : ℕ → ℕ → ℕ → Item = λ reg imm second. given (record { op = op; reg = reg; width = width; imm = imm; second = second; bytes = [] }) in
    let r = bind_some (register_of a) (λ reg. fitting width b >>= λ imm. fitting width c >>= λ second. cond (has_second op reg) (Some (full reg imm second)) None) item e in
    let n = bind_some (fitting width b) (λ imm. fitting width c >>= λ second. cond (has_second op r.0) (Some (full r.0 imm second)) None) item r.2 in
    let m = bind_some (fitting width c) (λ second. cond (has_second op r.0) (Some (full r.0 n.0 second)) None) item n.2 in
    let u = where_is (has_second op r.0) (full r.0 n.0 m.0) item m.2 in
    let reg = register_of_is a r.0 r.1 in
    let number = fitting_is width b n.0 fits n.1 in
    let second = fitting_is width c m.0 fits m.1 in
    let zero_fits = one_fits width fits in
    let i : Instruction = record { op = op; reg = r.0; width = width; imm = n.0; second = m.0; bytes = [] } in
    let good : IsWellFormed i = record { reg = reg.0; width = fits; imm = number.0; second = second.0; no_second = λ h. absurd {A = m.0 ≡ 0} cc; bytes = zero_fits; no_bytes = λ h. refl } in
    let small : length i.bytes ≤ bytes_limit = omega arith in
    denoted (Dotted i) (w ∷ ops) item (good, (λ k. omega arith), small) (long_words op r.0 width n.0 m.0 w a b c ops s o reg.1 number.1 second.1 u.0 counts) u.1

counted_is_form : (width : ℕ) (w : List ℕ) (ops : List (List ℕ)) (item : Item) → IsWidth width → w ≡ dotted_word Jnebs width → three ops (counted_read width) ≡ Some item → Denotes (w ∷ ops) item
counted_is_form width w ops item fits s e =
    let full : ℕ → ℕ → List ℕ → Item = λ reg imm bytes. given (record { op = Jnebs; reg = reg; width = width; imm = imm; second = 0; bytes = bytes }) in
    let o = three_is ops (counted_read width) item e in
    let r = bind_some (register_of o.0) (λ reg. fitting width o.1 >>= λ imm. counted_bytes width o.2 >>= λ bytes. Some (full reg imm bytes)) item o.4 in
    let n = bind_some (fitting width o.1) (λ imm. counted_bytes width o.2 >>= λ bytes. Some (full r.0 imm bytes)) item r.2 in
    let x = bind_some (counted_bytes width o.2) (λ bytes. Some (full r.0 n.0 bytes)) item n.2 in
    let reg = register_of_is o.0 r.0 r.1 in
    let number = fitting_is width o.1 n.0 fits n.1 in
    let bytes = counted_is width o.2 x.0 fits x.1 in
    let i : Instruction = record { op = Jnebs; reg = r.0; width = width; imm = n.0; second = 0; bytes = x.0 } in
    let good : IsWellFormed i = record { reg = reg.0; width = fits; imm = number.0; second = one_fits width fits; no_second = λ h. refl; bytes = bytes.1; no_bytes = λ h. absurd cc } in
    denoted (Dotted i) (w ∷ ops) item (good, bytes.0.bytes_fit, bytes.0.long) (four_words w (dotted_word Jnebs width) o.0 (register_word r.0) o.1 (decimal n.0) o.2 (hex_word x.0) ops s o.3 reg.1 number.1 bytes.0.text) x.2

dotted_is : (op : Op) (width : ℕ) (w : List ℕ) (ops : List (List ℕ)) (item : Item) (counts : Bool) → is_counted op ≡ counts → IsWidth width → w ≡ dotted_word op width → item_read (heads.Dotted op width) ops ≡ Some item → Denotes (w ∷ ops) item
unfolding item_read
dotted_is op width w ops item true c fits s e =
    let is = counted_op op c in
    counted_is_form width w ops item fits (s ∙ ap (λ (o : Op). dotted_word o width) is) (ap (λ (o : Op). item_read (heads.Dotted o width) ops) (sym is) ∙ e)
dotted_is op width w ops item false c fits s e =
    elim (two_or_three_is ops (short_read op width) (long_read op width) item (sym (item_read-dotted op width ops c) ∙ e)) [
      | inl short ↦ short_is op width w short.0 short.1 ops item fits c s short.2 short.3
      | inr long ↦ long_is op width w long.0 long.1 long.2 ops item fits c s long.3 long.4
    ]

-- ---- the whole

pub item_is : (h : Head) (w : List ℕ) (ops : List (List ℕ)) (item : Item) → IsHead h w → item_read h ops ≡ Some item → Denotes (w ∷ ops) item
unfolding item_read simple_read
item_is (heads.Label n) w ops item is e = let o = none_is ops (Some (items.Label n)) item e in denoted (Label n) (w ∷ ops) item is.0 (one_word w _ ops is.1 o.0) o.1
item_is (heads.Load op) w ops item is e = load_is op w ops item is.0 is.1 e
item_is (heads.Arithmetic op) w ops item is e = arithmetic_is op w ops item is.0 is.1 e
item_is heads.Shift w ops item is e = shift_is w ops item is e
item_is (heads.Signed op) w ops item is e = signed_is op w ops item is.0 is.1 e
item_is (heads.Slot base) w ops item is e = slot_is base w ops item is e
item_is (heads.Register code) w ops item is e = register_is code w ops item is e
item_is heads.Swap w ops item is e = let o = none_is ops (Some (unsigned Ext 0 34)) item e in denoted Swap (w ∷ ops) item tt (one_word w _ ops is o.0) o.1
item_is heads.Jump w ops item is e = jump_is w ops item is e
item_is (heads.Compare op) w ops item is e = compare_is op w ops item is.0 is.1 e
item_is heads.CompareBytes w ops item is e = compare_bytes_is w ops item is e
item_is (heads.Dotted op width) w ops item is e = dotted_is op width w ops item (is_counted op) refl is.0 is.1 e
item_is heads.Byte w ops item is e = byte_is w ops item is e

-- ---- the words of a form are read as its item

answered : (w : List ℕ) (ops : List (List ℕ)) (h : Head) (item : Item) → head_of w ≡ Some h → item_read h ops ≡ Some item → words_answer (w ∷ ops) ≡ Ok (Some item)
unfolding words_answer
answered w ops h item p q = rw (p, q) refl

first_digit : (word : List ℕ) → list_all is_ascii_digit word ≡ true → 0 < length word → get_or word 0 0 < 114
first_digit [] digits some = absurd (omega arith)
first_digit (b ∷ word) digits some = let first = (and_parts (is_ascii_digit b) (list_all is_ascii_digit word) digits).0 in grind (arith, nat_tests)

no_letter : (word : List ℕ) → get_or word 0 0 < 114 → bytes_eq word (codes "r1") ≡ false
no_letter [] lt = refl
no_letter (b ∷ word) lt = rw (ne_eqb b 114 (λ e. omega arith)) refl

-- a digit stands first in the text of a number
first_low : (n : ℕ) → IsWord n → get_or (decimal n) 0 0 < 114
first_low n small =
    let digits = digits_decimal own n (omega arith) in
    let some = decimal_nonempty n (omega arith) in
    first_digit (decimal n) digits some

load_again : (op : Op) (reg n : ℕ) → reg < 2 → IsWord n → load_read op (register_word reg) (decimal n) ≡ Some (unsigned op reg n)
load_again op reg n bit small = rw (register_of-word reg bit, number_of-decimal n small) refl

no_register : (n : ℕ) → IsWord n → bytes_eq (decimal n) (codes "r1") ≡ false
no_register zero small = ap (λ (t : List ℕ). bytes_eq t (codes "r1")) (decimal_digit 0 (omega arith))
no_register (suc n) small = no_letter (decimal (suc n)) (first_low (suc n) small)

arithmetic_again : (op : Op) (n : ℕ) → IsWord n → arithmetic_read op (decimal n) ≡ Some (unsigned op 0 n)
arithmetic_again op n small = rw (no_register n small, number_of-decimal n small) refl

shift_again : (z : ℤ) → FitsSigned w32 z → shift_read (signed_decimal z) ≡ Some (signed Sh 0 z)
shift_again (pos n) fits =
    let small : n < 2 ^ 31 = fits.sfits in
    rw (no_register n (omega arith), signed_of-decimal (pos n) fits) refl
shift_again (negsuc n) fits = rw (signed_of-decimal (negsuc n) fits) refl

signed_again : (op : Op) (reg : ℕ) (z : ℤ) → reg < 2 → FitsSigned w32 z → signed_read op (register_word reg) (signed_decimal z) ≡ Some (signed op reg z)
signed_again op reg z bit fits = rw (register_of-word reg bit, signed_of-decimal z fits) refl

slot_again : (base reg n : ℕ) → reg < 2 → n < 16 → slot_read base (register_word reg) (decimal n) ≡ Some (unsigned Ext reg (base + n))
slot_again base reg n bit small = rw (register_of-word reg bit, below-decimal 16 n small (omega arith)) refl

register_again : (code reg : ℕ) → reg < 2 → register_read code (register_word reg) ≡ Some (unsigned Ext reg code)
register_again code reg bit = rw (register_of-word reg bit) refl

jump_again : (to : Target) → IsTarget to → jump_read (target_word to) ≡ Some (jump Jmp 0 0 [] to)
jump_again to fits = rw (target_of-word to fits) refl

compare_again : (op : Op) (n : ℕ) (to : Target) → IsWord n → IsTarget to → compare_read op (decimal n) (target_word to) ≡ Some (jump op 0 n [] to)
compare_again op n to small fits = rw (no_register n small, number_of-decimal n small, target_of-word to fits) refl

compare_r1_again : (op : Op) (to : Target) → IsTarget to → compare_r1_read op (target_word to) ≡ Some (jump op 1 0 [] to)
compare_r1_again op to fits = rw (target_of-word to fits) refl

compare_bytes_again : (bytes : List ℕ) (to : Target) → IsBytes bytes → 0 < length bytes → length bytes ≤ bytes_limit → IsTarget to → compare_bytes_read (hex_word bytes) (target_word to) ≡ Some (jump Jnebs 0 0 bytes to)
compare_bytes_again bytes to fits some long t = rw (target_of-word to t, hex_of-word bytes fits long, some_bytes-some bytes some) refl

byte_again : (b : ℕ) → b < 256 → byte_read (decimal b) ≡ Some (items.Byte b)
byte_again b lt = rw (below-decimal 256 b lt (omega arith)) refl

-- ---- dotted lines again

pub word_from : (n w : ℕ) → IsWidth w → n < 256 ^ w → IsWord n
word_from n w width lt = elim width [
  | inl p ↦ let small : n < 256 ^ 0 = subst (λ (k : ℕ). n < 256 ^ k) p lt in omega arith
  | inr (inl p) ↦ let small : n < 256 ^ 1 = subst (λ (k : ℕ). n < 256 ^ k) p lt in omega arith
  | inr (inr (inl p)) ↦ let small : n < 256 ^ 2 = subst (λ (k : ℕ). n < 256 ^ k) p lt in omega arith
  | inr (inr (inr p)) ↦ let small : n < 256 ^ 4 = subst (λ (k : ℕ). n < 256 ^ k) p lt in omega arith
]

fitting_again : (w n : ℕ) → IsWidth w → n < 256 ^ w → fitting w (decimal n) ≡ Some n
fitting_again w n width lt = fitting-decimal w n width lt (word_from n w width lt)

-- an instruction without counted bytes, by whether it has a second immediate
tail_again : (op : Op) (reg width imm second : ℕ) (bytes : List ℕ) (has : Bool) → has_second op reg ≡ has → reg < 2 → IsWidth width → imm < 256 ^ width → second < 256 ^ width → (has ≡ false → second ≡ 0) → bytes ≡ []
    → two_or_three (register_word reg ∷ decimal imm ∷ cond has (decimal second ∷ []) [] ++ []) (short_read op width) (long_read op width) ≡ Some (given (record { op = op; reg = reg; width = width; imm = imm; second = second; bytes = bytes }))
tail_again op reg width imm second bytes true has bit fits i s none no_bytes = rw (register_of-word reg bit, fitting_again width imm fits i, fitting_again width second fits s, has, no_bytes) refl
tail_again op reg width imm second bytes false has bit fits i s none no_bytes = rw (register_of-word reg bit, fitting_again width imm fits i, has, none refl, no_bytes) refl

plain_again : (i : Instruction) → IsWellFormed i → is_counted i.op ≡ false → item_read (heads.Dotted i.op i.width) (register_word i.reg ∷ decimal i.imm ∷ second_words i ++ counted_words i) ≡ Some (given i)
plain_again i good counts =
    item_read-dotted i.op i.width (register_word i.reg ∷ decimal i.imm ∷ second_words i ++ counted_words i) counts
    ∙ ap (λ (b : Bool). two_or_three (register_word i.reg ∷ decimal i.imm ∷ second_words i ++ cond b (hex_word i.bytes ∷ []) []) (short_read i.op i.width) (long_read i.op i.width)) counts
    ∙ tail_again i.op i.reg i.width i.imm i.second i.bytes (has_second i.op i.reg) refl good.reg good.width good.imm good.second good.no_second (good.no_bytes counts)

bytes_again : (reg width imm second : ℕ) (bytes : List ℕ) → reg < 2 → IsWidth width → imm < 256 ^ width → second ≡ 0 → length bytes < 256 ^ width → IsBytes bytes → length bytes ≤ bytes_limit
    → three (register_word reg ∷ decimal imm ∷ hex_word bytes ∷ []) (counted_read width) ≡ Some (given (record { op = Jnebs; reg = reg; width = width; imm = imm; second = second; bytes = bytes }))
bytes_again reg width imm second bytes bit fits i none short all long = rw (register_of-word reg bit, fitting_again width imm fits i, counted-word width bytes fits all long short, none) refl

jnebs_again : (reg width imm second : ℕ) (bytes : List ℕ) → IsAllowed (Dotted (record { op = Jnebs; reg = reg; width = width; imm = imm; second = second; bytes = bytes }))
    → item_read (heads.Dotted Jnebs width) (register_word reg ∷ decimal imm ∷ hex_word bytes ∷ []) ≡ Some (given (record { op = Jnebs; reg = reg; width = width; imm = imm; second = second; bytes = bytes }))
unfolding item_read
jnebs_again reg width imm second bytes fits = bytes_again reg width imm second bytes fits.0.reg fits.0.width fits.0.imm (fits.0.no_second refl) fits.0.bytes fits.1 fits.2

dotted_again : (op : Op) (reg width imm second : ℕ) (bytes : List ℕ) (counts : Bool) → is_counted op ≡ counts → IsAllowed (Dotted (record { op = op; reg = reg; width = width; imm = imm; second = second; bytes = bytes }))
    → item_read (heads.Dotted op width) (register_word reg ∷ decimal imm ∷ second_words (record { op = op; reg = reg; width = width; imm = imm; second = second; bytes = bytes }) ++ counted_words (record { op = op; reg = reg; width = width; imm = imm; second = second; bytes = bytes })) ≡ Some (given (record { op = op; reg = reg; width = width; imm = imm; second = second; bytes = bytes }))
dotted_again op reg width imm second bytes false c fits = plain_again (record { op = op; reg = reg; width = width; imm = imm; second = second; bytes = bytes }) fits.0 c
dotted_again Jnebs reg width imm second bytes true c fits = jnebs_again reg width imm second bytes fits
dotted_again Ldb reg width imm second bytes true c fits = absurd cc
dotted_again Ldh reg width imm second bytes true c fits = absurd cc
dotted_again Ldw reg width imm second bytes true c fits = absurd cc
dotted_again Ldbx reg width imm second bytes true c fits = absurd cc
dotted_again Ldhx reg width imm second bytes true c fits = absurd cc
dotted_again Ldwx reg width imm second bytes true c fits = absurd cc
dotted_again Add reg width imm second bytes true c fits = absurd cc
dotted_again Mul reg width imm second bytes true c fits = absurd cc
dotted_again Div reg width imm second bytes true c fits = absurd cc
dotted_again And reg width imm second bytes true c fits = absurd cc
dotted_again Or reg width imm second bytes true c fits = absurd cc
dotted_again Sh reg width imm second bytes true c fits = absurd cc
dotted_again Li reg width imm second bytes true c fits = absurd cc
dotted_again Jmp reg width imm second bytes true c fits = absurd cc
dotted_again Jeq reg width imm second bytes true c fits = absurd cc
dotted_again Jne reg width imm second bytes true c fits = absurd cc
dotted_again Jgt reg width imm second bytes true c fits = absurd cc
dotted_again Jlt reg width imm second bytes true c fits = absurd cc
dotted_again Jset reg width imm second bytes true c fits = absurd cc
dotted_again Ext reg width imm second bytes true c fits = absurd cc
dotted_again Lddw reg width imm second bytes true c fits = absurd cc
dotted_again Stdw reg width imm second bytes true c fits = absurd cc

-- ---- every form

-- the names that say what stands behind them
named_heads : (head_of (codes "sh") ≡ Some heads.Shift) × (head_of (codes "ldm") ≡ Some (heads.Slot 0)) × (head_of (codes "stm") ≡ Some (heads.Slot 16)) × (head_of (codes "not") ≡ Some (heads.Register 32)) × (head_of (codes "neg") ≡ Some (heads.Register 33)) × (head_of (codes "swap") ≡ Some heads.Swap) × (head_of (codes "move") ≡ Some (heads.Register 35)) × (head_of (codes "jmp") ≡ Some heads.Jump) × (head_of (codes "jnebs") ≡ Some heads.CompareBytes) × (head_of (codes ".byte") ≡ Some heads.Byte)
unfolding head_of op_named other_head
named_heads = (refl, refl, refl, refl, refl, refl, refl, refl, refl, refl)

pub form_again : (f : Form) → IsAllowed f → words_answer (words_of f) ≡ Ok (Some (item_of f))
unfolding item_read simple_read
form_again (Label n) a = answered (codes "L" ++ decimal n ++ codes ":") [] (heads.Label n) (items.Label n) (head_of-label n a) refl
form_again (Load op reg n) a = answered (op_name op) (register_word reg ∷ decimal n ∷ []) (heads.Load op) (unsigned op reg n) (head_of-load op a.0) (load_again op reg n a.1 a.2)
form_again (Arithmetic op n) a = answered (op_name op) (decimal n ∷ []) (heads.Arithmetic op) (unsigned op 0 n) (head_of-arithmetic op a.0) (arithmetic_again op n a.1)
form_again (ArithmeticR1 op) a = answered (op_name op) (register_word 1 ∷ []) (heads.Arithmetic op) (plain op 1 0 0) (head_of-arithmetic op a) refl
form_again (Shift z) a = answered (codes "sh") (signed_decimal z ∷ []) heads.Shift (signed Sh 0 z) named_heads.0 (shift_again z a)
form_again ShiftR1 a = answered (codes "sh") (register_word 1 ∷ []) heads.Shift (plain Sh 1 0 0) named_heads.0 refl
form_again (Signed op reg z) a = answered (op_name op) (register_word reg ∷ signed_decimal z ∷ []) (heads.Signed op) (signed op reg z) (head_of-signed op a.0) (signed_again op reg z a.1 a.2)
form_again (LoadSlot reg slot) a = answered (codes "ldm") (register_word reg ∷ decimal slot ∷ []) (heads.Slot 0) (unsigned Ext reg slot) named_heads.1 (slot_again 0 reg slot a.0 a.1 ∙ ap (λ (k : ℕ). Some (unsigned Ext reg k)) (zero-add slot))
form_again (StoreSlot reg slot) a = answered (codes "stm") (register_word reg ∷ decimal slot ∷ []) (heads.Slot 16) (unsigned Ext reg (16 + slot)) named_heads.2 (slot_again 16 reg slot a.0 a.1)
form_again (Complement reg) a = answered (codes "not") (register_word reg ∷ []) (heads.Register 32) (unsigned Ext reg 32) named_heads.3 (register_again 32 reg a)
form_again (Negate reg) a = answered (codes "neg") (register_word reg ∷ []) (heads.Register 33) (unsigned Ext reg 33) named_heads.4 (register_again 33 reg a)
form_again Swap a = answered (codes "swap") [] heads.Swap (unsigned Ext 0 34) named_heads.5 refl
form_again (Move reg) a = answered (codes "move") (register_word reg ∷ []) (heads.Register 35) (unsigned Ext reg 35) named_heads.6 (register_again 35 reg a)
form_again (Jump to) a = answered (codes "jmp") (target_word to ∷ []) heads.Jump (jump Jmp 0 0 [] to) named_heads.7 (jump_again to a)
form_again (Compare op n to) a = answered (op_name op) (decimal n ∷ target_word to ∷ []) (heads.Compare op) (jump op 0 n [] to) (head_of-compare op a.0) (compare_again op n to a.1 a.2)
form_again (CompareR1 op to) a = answered (op_name op) (register_word 1 ∷ target_word to ∷ []) (heads.Compare op) (jump op 1 0 [] to) (head_of-compare op a.0) (compare_r1_again op to a.1)
form_again (CompareBytes bytes to) a = answered (codes "jnebs") (hex_word bytes ∷ target_word to ∷ []) heads.CompareBytes (jump Jnebs 0 0 bytes to) named_heads.8 (compare_bytes_again bytes to a.0 a.1 a.2 a.3)
form_again (Dotted i) a = answered (dotted_word i.op i.width) (register_word i.reg ∷ decimal i.imm ∷ second_words i ++ counted_words i) (heads.Dotted i.op i.width) (given i) (head_of-dotted i.op i.width a.0.width) (dotted_again i.op i.reg i.width i.imm i.second i.bytes (is_counted i.op) refl a)
form_again (Byte b) a = answered (codes ".byte") (decimal b ∷ []) heads.Byte (items.Byte b) named_heads.9 (byte_again b a)
