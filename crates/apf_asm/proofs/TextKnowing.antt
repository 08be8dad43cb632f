-- The known first words are those of the list.
use Rattle.std.proofs.Common.{◌≡◌, ◌≢◌, ℕ, zero, suc, ◌<◌, ◌⊎◌, true, List, get_or, Some, refl, sym, ap, ◌∙◌, arith, inl, inr}
use Rattle.std.specs.Prelude.{◌↔◌}
use Rattle.apf_coding.specs.declared.instruction.Op.{Op}
use Rattle.apf_coding.specs.declared.instruction.Op.TheVariants.{Ldb, Ldh, Ldw, Ldbx, Ldhx, Ldwx, Add, Mul, Div, And, Or, Sh, Li, Jmp, Jeq, Jne, Jgt, Jlt, Jset, Jnebs, Ext, Lddw, Stdw}
use Rattle.apf_coding.specs.Instruction.{is_conditional}
use Rattle.apf_coding.specs.Names.{op_name}
use Rattle.apf_asm.specs.declared.text_head.Head.{Head}
use Rattle.apf_asm.specs.declared.text_head.Head.TheVariants as heads
use Rattle.apf_asm.specs.TextForms.{IsKnown, is_load, is_arithmetic, is_signed}
use Rattle.apf_asm.specs.TextKnown.{other_names, IsName, IsLabel, IsDotted}
use Rattle.apf_asm.specs.TextReading.{op_head}
use Rattle.apf_asm.proofs.TextHeads.{IsHead, head_of_is, op_head_is}
use Rattle.apf_asm.proofs.TextLaws.{known_from, known_head}

abbrev IsListed : List ℕ → Type 0
IsListed word = IsName word ⊎ (IsLabel word ⊎ IsDotted word)

by_op : (word : List ℕ) (op : Op) → op ≢ Ext → word ≡ op_name op → IsListed word
by_op word op ne s = inl (inl (op, ne, s))

by_other : (word : List ℕ) (k : ℕ) → k < 7 → word ≡ get_or other_names k word → IsListed word
by_other word k lt s = inl (inr (k, lt, sym s))

listed : (h : Head) (word : List ℕ) → IsHead h word → IsListed word
listed (heads.Label n) word is = inr (inl (n, is.0, is.1))
listed (heads.Load op) word is = by_op word op (λ e. let t : is_load Ext ≡ true = ap is_load (sym e) ∙ is.0 in absurd cc) is.1
listed (heads.Arithmetic op) word is = by_op word op (λ e. let t : is_arithmetic Ext ≡ true = ap is_arithmetic (sym e) ∙ is.0 in absurd cc) is.1
listed heads.Shift word is = by_op word Sh (λ e. absurd cc) is
listed (heads.Signed op) word is = by_op word op (λ e. let t : is_signed Ext ≡ true = ap is_signed (sym e) ∙ is.0 in absurd cc) is.1
listed (heads.Slot base) word is = elim is [ inl ldm ↦ by_other word 0 (omega arith) ldm.1 | inr stm ↦ by_other word 1 (omega arith) stm.1 ]
listed (heads.Register code) word is = elim is [ inl nots ↦ by_other word 2 (omega arith) nots.1 | inr (inl neg) ↦ by_other word 3 (omega arith) neg.1 | inr (inr moves) ↦ by_other word 5 (omega arith) moves.1 ]
listed heads.Swap word is = by_other word 4 (omega arith) is
listed heads.Jump word is = by_op word Jmp (λ e. absurd cc) is
listed (heads.Compare op) word is = by_op word op (λ e. let t : is_conditional Ext ≡ true = ap is_conditional (sym e) ∙ is.0 in absurd cc) is.1
listed heads.CompareBytes word is = by_op word Jnebs (λ e. absurd cc) is
listed (heads.Dotted op width) word is = inr (inr (op, width, is.0, is.1))
listed heads.Byte word is = by_other word 6 (omega arith) is

named_op : (op : Op) → op ≢ Ext → (h : Head) × (op_head op ≡ Some h)
named_op Ldb ne = (heads.Load Ldb, refl)
named_op Ldh ne = (heads.Load Ldh, refl)
named_op Ldw ne = (heads.Load Ldw, refl)
named_op Ldbx ne = (heads.Load Ldbx, refl)
named_op Ldhx ne = (heads.Load Ldhx, refl)
named_op Ldwx ne = (heads.Load Ldwx, refl)
named_op Add ne = (heads.Arithmetic Add, refl)
named_op Mul ne = (heads.Arithmetic Mul, refl)
named_op Div ne = (heads.Arithmetic Div, refl)
named_op And ne = (heads.Arithmetic And, refl)
named_op Or ne = (heads.Arithmetic Or, refl)
named_op Sh ne = (heads.Shift, refl)
named_op Li ne = (heads.Signed Li, refl)
named_op Jmp ne = (heads.Jump, refl)
named_op Jeq ne = (heads.Compare Jeq, refl)
named_op Jne ne = (heads.Compare Jne, refl)
named_op Jgt ne = (heads.Compare Jgt, refl)
named_op Jlt ne = (heads.Compare Jlt, refl)
named_op Jset ne = (heads.Compare Jset, refl)
named_op Jnebs ne = (heads.CompareBytes, refl)
named_op Ext ne = absurd (ne refl)
named_op Lddw ne = (heads.Signed Lddw, refl)
named_op Stdw ne = (heads.Signed Stdw, refl)

other_known : (word : List ℕ) (k : ℕ) → k < 7 → get_or other_names k word ≡ word → IsKnown word
other_known word zero lt e = known_from (heads.Slot 0) word (inl (refl, sym e))
other_known word (suc zero) lt e = known_from (heads.Slot 16) word (inr (refl, sym e))
other_known word (suc (suc zero)) lt e = known_from (heads.Register 32) word (inl (refl, sym e))
other_known word (suc (suc (suc zero))) lt e = known_from (heads.Register 33) word (inr (inl (refl, sym e)))
other_known word (suc (suc (suc (suc zero)))) lt e = known_from heads.Swap word (sym e)
other_known word (suc (suc (suc (suc (suc zero))))) lt e = known_from (heads.Register 35) word (inr (inr (refl, sym e)))
other_known word (suc (suc (suc (suc (suc (suc zero)))))) lt e = known_from heads.Byte word (sym e)
other_known word (suc (suc (suc (suc (suc (suc (suc k))))))) lt e = absurd (omega arith)

pub known_listed : (word : List ℕ) → IsKnown word ↔ IsListed word
known_listed word = (
  (λ k. let h = known_head word k in listed h.0 word (head_of_is word h.0 h.1)),
  (λ l. elim l [
    | inl (inl named) ↦ let h = named_op named.0 named.1 in known_from h.0 word (op_head_is named.0 h.0 word h.1 named.2)
    | inl (inr other) ↦ other_known word other.0 other.1 other.2
    | inr (inl label) ↦ known_from (heads.Label label.0) word (label.1, label.2)
    | inr (inr dotted) ↦ known_from (heads.Dotted dotted.0 dotted.1) word (dotted.2, dotted.3)
  ]),
)
