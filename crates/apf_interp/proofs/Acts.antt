-- What an instruction comes to, by its opcode.
use Rattle.std.proofs.Common.{◌≡◌, ℕ, ◌+◌, ◌-◌, ◌/◌, ◌%◌, ◌<◌, ◌≤◌, inl, inr, Bool, ◌||◌, true, false, cond, eqb, ltb, List, ◌∷◌, length, take, drop, Option, Some, None, Result, refl, subst, sym, ap, ◌∙◌, arith, add-one, drop-cons, eq-eqb}
use Rattle.std.proofs.lemmas.Bool.{lt-ltb, le-ltb, ne_eqb, cases_lt}
use Rattle.apf_coding.specs.declared.instruction.Op.{Op}
use Rattle.apf_coding.specs.declared.instruction.Op.TheVariants.{Ldb, Ldh, Ldw, Ldbx, Ldhx, Ldwx, Add, Mul, Div, And, Or, Sh, Li, Jmp, Jeq, Jne, Jgt, Jlt, Jset, Jnebs, Ext, Lddw, Stdw}
use Rattle.apf_coding.specs.declared.instruction.DecodeCause.TheVariants as causes
use Rattle.apf_coding.specs.declared.machine.FaultKind.{FaultKind}
use Rattle.apf_coding.specs.declared.machine.FaultKind.TheVariants.{Cut, Opcode, Division}
use Rattle.apf_coding.specs.Instruction.{Instruction, opcode_of, op_of, is_conditional, is_counted, has_second}
use Rattle.apf_coding.specs.Reading.{◌>>=◌, taken, number_at, second_at, bytes_at, fields_at, reading, instruction_at, cause_at}
use Rattle.apf_coding.specs.Meaning.{State, Meaning, meaning_of, meaning, compare_bytes, compared, sets_r0, Jump, Next, Fault}
use Rattle.apf_coding.specs.Run.{Turn, Stopped, turn_of, executed, turn}
use Rattle.apf_coding.proofs.Spelling.{number_of-op_of, op_of-number_of}
use Rattle.apf_coding.proofs.Running.{turn-executed}
use Rattle.apf_interp.specs.declared.code.Code.{Code}
use Rattle.apf_interp.specs.Reads.{width, plain}
use Rattle.apf_interp.specs.Effect.{Acts, after, first_of, with_first, joined, set_joined, holds, compare_from, with_bytes, bytes_counted, bytes_from}

-- ---- the numbers of the opcodes

-- the last one
abbrev last : ℕ
last = 23

-- a number from the first one to the last
abbrev pub IsInRange : ℕ → Type 0
IsInRange n = (0 < n) × (n ≤ last)

-- each opcode has one in the range
in_range : (op : Op) → IsInRange (opcode_of op)
in_range Ldb = (omega arith, omega arith)
in_range Ldh = (omega arith, omega arith)
in_range Ldw = (omega arith, omega arith)
in_range Ldbx = (omega arith, omega arith)
in_range Ldhx = (omega arith, omega arith)
in_range Ldwx = (omega arith, omega arith)
in_range Add = (omega arith, omega arith)
in_range Mul = (omega arith, omega arith)
in_range Div = (omega arith, omega arith)
in_range And = (omega arith, omega arith)
in_range Or = (omega arith, omega arith)
in_range Sh = (omega arith, omega arith)
in_range Li = (omega arith, omega arith)
in_range Jmp = (omega arith, omega arith)
in_range Jeq = (omega arith, omega arith)
in_range Jne = (omega arith, omega arith)
in_range Jgt = (omega arith, omega arith)
in_range Jlt = (omega arith, omega arith)
in_range Jset = (omega arith, omega arith)
in_range Jnebs = (omega arith, omega arith)
in_range Ext = (omega arith, omega arith)
in_range Lddw = (omega arith, omega arith)
in_range Stdw = (omega arith, omega arith)

-- where the number is that of an opcode, what doesn't decode is cut off
cut_cause : (op : Op) → cond (eqb (opcode_of op) 0 || ltb last (opcode_of op)) causes.Opcode causes.Cut ≡ causes.Cut
cut_cause op =
    let zero : eqb (opcode_of op) 0 ≡ false = ne_eqb _ _ (λ p. omega (arith, (in_range op).0)) in
    let top : ltb last (opcode_of op) ≡ false = le-ltb _ _ (omega (arith, (in_range op).1)) in
    rw (zero, top) refl

-- a number out of the range is that of no opcode
none_of : (k : ℕ) (r : Option Op) → op_of k ≡ r → ¬ IsInRange k → op_of k ≡ None
none_of k (Some op) e out =
    let is : opcode_of op ≡ k = number_of-op_of k op e in
    absurd (out (subst IsInRange is (in_range op)))
none_of k None e out = e

-- a number out of the range is 0 or above the last
above : (k : ℕ) → 0 < k → ¬ IsInRange k → last < k
above k low out = elim (cases_lt last k) [ inl high ↦ high | inr le ↦ absurd (out (low, le)) ]

-- and there nothing is cut off: no opcode is there
opcode_cause : (k : ℕ) → ¬ IsInRange k → cond (eqb k 0 || ltb last k) causes.Opcode causes.Cut ≡ causes.Opcode
opcode_cause k out =
    elim (cases_lt 0 k) [
      | inl low ↦
          let zero : eqb k 0 ≡ false = ne_eqb _ _ (λ p. omega arith) in
          let top : ltb last k ≡ true = lt-ltb _ _ (above k low out) in
          rw (zero, top) refl
      | inr none ↦
          let zero : eqb k 0 ≡ true = eq-eqb _ _ (omega arith) in
          rw zero refl
    ]

-- ---- what is done with an instruction, once it is read

abbrev done : List ℕ → List ℕ → Option (Instruction × List ℕ) → State → Turn
done program frame (Some x) m = turn_of (length program - length x.1) m (meaning x.0 (length program) frame m)
done program frame None m = Stopped Cut

-- what is executed is done, where what doesn't decode is cut off
executed-done : (program frame : List ℕ) (place : ℕ) (m : State) (r : Option (Instruction × List ℕ)) → cause_at program place ≡ causes.Cut → executed program frame place m (r >>= λ read. Some (read.0, length program - length read.1)) ≡ done program frame r m
executed-done program frame place m (Some x) e = refl
executed-done program frame place m None e = rw e refl

-- with one immediate
plain-done : (program frame : List ℕ) (op : Op) (reg w : ℕ) (m : State) (r : Option (ℕ × List ℕ)) → has_second op reg ≡ false → is_counted op ≡ false
    → done program frame (r >>= λ imm. second_at op reg w imm.1 >>= λ second. bytes_at op w second.1 >>= λ tail. Some (record { op = op; reg = reg; width = w; imm = imm.0; second = second.0; bytes = tail.0 }, tail.1)) m
    ≡ after program r (λ imm s. meaning_of op (plain op reg w imm) (length program) frame s) m
unfolding second_at bytes_at meaning
plain-done program frame op reg w m (Some x) p q = rw (p, q) refl
plain-done program frame op reg w m None p q = refl

-- a comparison
module _ (program frame : List ℕ) (op : Op) (reg w : ℕ) (m : State) (p : is_conditional op ≡ true) (q : is_counted op ≡ false)
    (means : (i : Instruction) → meaning_of op i (length program) frame m ≡ cond (holds op m.r0 (compared i m)) (Jump i.imm) (Next m)) where
  abbrev finish : ℕ → Option (ℕ × List ℕ) → Option (Instruction × List ℕ)
  finish imm second = second >>= λ second. bytes_at op w second.1 >>= λ tail. Some (record { op = op; reg = reg; width = w; imm = imm; second = second.0; bytes = tail.0 }, tail.1)

  compare-second : (imm : ℕ) (r : Option (ℕ × List ℕ)) → eqb reg 0 ≡ true → done program frame (finish imm r) m ≡ after program r (λ y s. cond (holds op s.r0 y) (Jump imm) (Next s)) m
  unfolding bytes_at meaning
  compare-second imm (Some y) e = rw (q, means, e) refl
  compare-second imm None e = refl

  compare-r1 : (imm : ℕ) (rest : List ℕ) → eqb reg 0 ≡ false → done program frame (finish imm (Some (0, rest))) m ≡ after program (Some (m.r1, rest)) (λ y s. cond (holds op s.r0 y) (Jump imm) (Next s)) m
  unfolding bytes_at meaning
  compare-r1 imm rest e = rw (q, means, e) refl

  compare-either : (imm : ℕ) (rest : List ℕ) (b : Bool) → eqb reg 0 ≡ b → done program frame (finish imm (cond b (number_at w rest) (Some (0, rest)))) m ≡ after program (cond b (number_at w rest) (Some (m.r1, rest))) (λ y s. cond (holds op s.r0 y) (Jump imm) (Next s)) m
  compare-either imm rest true e = compare-second imm (number_at w rest) e
  compare-either imm rest false e = compare-r1 imm rest e

  compare-done : (r : Option (ℕ × List ℕ)) → done program frame (r >>= λ imm. finish imm.0 (second_at op reg w imm.1)) m ≡ compare_from program op reg w r m
  unfolding second_at
  compare-done (Some x) = rw p (compare-either x.0 x.1 (eqb reg 0) refl)
  compare-done None = refl

-- a comparison of bytes
module _ (program frame : List ℕ) (reg w : ℕ) (m : State) where
  abbrev with_tail : ℕ → Option (List ℕ × List ℕ) → Option (Instruction × List ℕ)
  with_tail imm tail = tail >>= λ tail. Some (with_bytes reg w imm tail.0, tail.1)

  bytes-taken : (imm count : ℕ) (rest : List ℕ) (b : Bool)
      → done program frame (with_tail imm (cond b None (Some (take count rest, drop count rest)))) m
      ≡ cond b (Stopped Cut) (turn_of (length program - length (drop count rest)) m (compare_bytes (with_bytes reg 0 imm (take count rest)) frame m))
  unfolding meaning compare_bytes
  bytes-taken imm count rest true = refl
  bytes-taken imm count rest false = refl

  bytes-counted : (imm : ℕ) (r : Option (ℕ × List ℕ)) → done program frame (with_tail imm (r >>= λ n. taken n.0 n.1)) m ≡ bytes_counted program frame reg imm r m
  bytes-counted imm (Some y) = bytes-taken imm y.0 y.1 (ltb (length y.1) y.0)
  bytes-counted imm None = refl

  bytes-done : (r : Option (ℕ × List ℕ))
      → done program frame (r >>= λ imm. second_at Jnebs reg w imm.1 >>= λ second. bytes_at Jnebs w second.1 >>= λ tail. Some (record { op = Jnebs; reg = reg; width = w; imm = imm.0; second = second.0; bytes = tail.0 }, tail.1)) m
      ≡ bytes_from program frame reg w r m
  unfolding second_at bytes_at
  bytes-done (Some x) = bytes-counted x.0 (number_at w x.1)
  bytes-done None = refl

-- the same reading, and what is done with each number is the same
after-same : (program : List ℕ) (m : State) (f g : ℕ → State → Meaning) (r : Option (ℕ × List ℕ)) → ((n : ℕ) → f n m ≡ g n m) → after program r f m ≡ after program r g m
after-same program m f g (Some x) h = ap (turn_of (length program - length x.1) m) (h x.0)
after-same program m f g None h = refl

-- what is joined by a division is divided, or has the fault
division : (b : Bool) (v : ℕ) (m : State) → set_joined (cond b None (Some v)) m ≡ cond b (Fault Division) (sets_r0 v m)
division true v m = refl
division false v m = refl

-- ---- the turn at an instruction

module _ (c : Code) (frame : List ℕ) (m : State) where
  -- the first byte is the one at the place
  first-at : drop c.place c.program.now ≡ c.first ∷ drop (c.place + 1) c.program.now
  first-at = rw (add-one, drop-cons c.program.now c.place 0 c.inside, c.is_first) refl

  -- of an opcode
  turn-done : (op : Op) → c.first / 8 ≡ opcode_of op → turn c.program.now frame c.place m ≡ done c.program.now frame (fields_at op (c.first % 2) (width c.first) (drop (c.place + 1) c.program.now)) m
  unfolding instruction_at reading
  turn-done op is =
      let read : instruction_at c.program.now c.place ≡ (fields_at op (c.first % 2) (width c.first) (drop (c.place + 1) c.program.now) >>= λ read. Some (read.0, length c.program.now - length read.1)) = rw (first-at, is, op_of-number_of op) refl in
      let cut : cause_at c.program.now c.place ≡ causes.Cut = rw (c.is_first, is) (cut_cause op) in
      turn-executed c.program.now frame c.place m c.inside ∙ (ap (executed c.program.now frame c.place m) read ∙ executed-done c.program.now frame c.place m (fields_at op (c.first % 2) (width c.first) (drop (c.place + 1) c.program.now)) cut)

  -- of no opcode
  pub turn-none : ¬ IsInRange (c.first / 8) → turn c.program.now frame c.place m ≡ Stopped Opcode
  unfolding instruction_at reading
  turn-none out =
      let none : instruction_at c.program.now c.place ≡ None = rw (first-at, none_of (c.first / 8) (op_of (c.first / 8)) refl out) refl in
      let why : cause_at c.program.now c.place ≡ causes.Opcode = rw c.is_first (opcode_cause (c.first / 8) out) in
      turn-executed c.program.now frame c.place m c.inside ∙ rw (none, why) refl

-- ---- an effect is that of the turn

module _ (c : Code) (frame : List ℕ) (op : Op) (old new : State) (r : Result ℕ FaultKind) (is : c.first / 8 ≡ opcode_of op) where
  -- with one immediate
  pub by_plain : has_second op (c.first % 2) ≡ false → is_counted op ≡ false → Acts r old new (with_first c (λ imm s. meaning_of op (plain op (c.first % 2) (width c.first) imm) (length c.program.now) frame s) old) → Acts r old new (turn c.program.now frame c.place old)
  unfolding fields_at
  by_plain p q h = subst (λ (t : Turn). Acts r old new t) (sym (turn-done c frame old op is ∙ plain-done c.program.now frame op (c.first % 2) (width c.first) old (first_of c) p q)) h

  -- a comparison
  pub by_compare : is_conditional op ≡ true → is_counted op ≡ false → ((i : Instruction) → meaning_of op i (length c.program.now) frame old ≡ cond (holds op old.r0 (compared i old)) (Jump i.imm) (Next old))
      → Acts r old new (compare_from c.program.now op (c.first % 2) (width c.first) (first_of c) old) → Acts r old new (turn c.program.now frame c.place old)
  unfolding fields_at
  by_compare p q means h = subst (λ (t : Turn). Acts r old new t) (sym (turn-done c frame old op is ∙ compare-done c.program.now frame op (c.first % 2) (width c.first) old p q means (first_of c))) h

module _ (c : Code) (frame : List ℕ) (old new : State) (r : Result ℕ FaultKind) where
  -- a division
  pub by_division : c.first / 8 ≡ opcode_of Div → Acts r old new (with_first c (λ imm s. set_joined (joined Div s.r0 (cond (eqb (c.first % 2) 0) imm s.r1)) s) old) → Acts r old new (turn c.program.now frame c.place old)
  by_division is h =
      by_plain c frame Div old new r is refl refl
      (subst (λ (t : Turn). Acts r old new t) (after-same c.program.now old _ _ (first_of c) (λ n. division (eqb (cond (eqb (c.first % 2) 0) n old.r1) 0) (old.r0 / cond (eqb (c.first % 2) 0) n old.r1) old)) h)

  -- a comparison of bytes
  pub by_bytes : c.first / 8 ≡ opcode_of Jnebs → Acts r old new (bytes_from c.program.now frame (c.first % 2) (width c.first) (first_of c) old) → Acts r old new (turn c.program.now frame c.place old)
  unfolding fields_at
  by_bytes is h = subst (λ (t : Turn). Acts r old new t) (sym (turn-done c frame old Jnebs is ∙ bytes-done c.program.now frame (c.first % 2) (width c.first) old (first_of c))) h
