-- A jump's width and offset decide nothing but where it goes, and nothing else jumps.
use Rattle.std.proofs.Common.{◌≡◌, ℕ, ◌+◌, Bool, true, false, cond, List, length, drop, Option, Some, None, refl}
use Rattle.std.specs.Prelude.{not, ◌||◌, ◌==◌, nat_lt, nat_eq, bit_and}
use Rattle.std.specs.List.{starts_with}
use Rattle.apf_coding.specs.declared.instruction.Op.{Op}
use Rattle.apf_coding.specs.declared.instruction.Op.TheVariants.{Ldb, Ldh, Ldw, Ldbx, Ldhx, Ldwx, Add, Mul, Div, And, Or, Sh, Li, Jmp, Jeq, Jne, Jgt, Jlt, Jset, Jnebs, Ext, Lddw, Stdw}
use Rattle.apf_coding.specs.declared.machine.FaultKind.{FaultKind}
use Rattle.apf_coding.specs.declared.machine.FaultKind.TheVariants.{Compare, Frame}
use Rattle.apf_coding.specs.Jumps.{is_jump}
use Rattle.apf_coding.specs.Instruction.{Instruction}
use Rattle.apf_coding.specs.Meaning.{State, Meaning, Next, Jump, Fault, meaning, meaning_of, load, loaded, frame_number, compare_bytes, extended, load_data, store_data, jumps_if, compared}

-- a meaning whose jump has another offset
abbrev pub aimed : ℕ → Meaning → Meaning
aimed offset (Next next) = Next next
aimed offset (Jump old) = Jump offset
aimed offset (Fault kind) = Fault kind

-- an instruction with another width and another first immediate
abbrev pub aimed_at : Instruction → ℕ → ℕ → Instruction
aimed_at i width imm = record { op = i.op; reg = i.reg; width = width; imm = imm; second = i.second; bytes = i.bytes }

jumps_if-aimed : (taken : Bool) (i : Instruction) (width offset : ℕ) (m : State) → jumps_if taken (aimed_at i width offset) m ≡ aimed offset (jumps_if taken i m)
jumps_if-aimed true i width offset m = refl
jumps_if-aimed false i width offset m = refl

guards-aimed : (a b : Bool) (x y : FaultKind) (t u : Meaning) (offset : ℕ) → t ≡ aimed offset u → cond a (Fault x) (cond b (Fault y) t) ≡ aimed offset (cond a (Fault x) (cond b (Fault y) u))
guards-aimed true b x y t u offset e = refl
guards-aimed false true x y t u offset e = refl
guards-aimed false false x y t u offset e = e

bytes-aimed : (i : Instruction) (width offset : ℕ) (frame : List ℕ) (m : State) → compare_bytes (aimed_at i width offset) frame m ≡ aimed offset (compare_bytes i frame m)
unfolding compare_bytes
bytes-aimed i width offset frame m = guards-aimed (not (i.reg == 0) || (length i.bytes == 0)) (nat_lt (length frame) (m.r0 + length i.bytes)) Compare Frame _ _ offset (jumps_if-aimed (not (starts_with nat_eq (drop m.r0 frame) i.bytes)) i width offset m)

of-aimed : (op : Op) (i : Instruction) (width offset n : ℕ) (frame : List ℕ) (m : State) → is_jump op ≡ true → meaning_of op (aimed_at i width offset) n frame m ≡ aimed offset (meaning_of op i n frame m)
of-aimed Jmp i width offset n frame m jump = refl
of-aimed Jeq i width offset n frame m jump = jumps_if-aimed (m.r0 == compared i m) i width offset m
of-aimed Jne i width offset n frame m jump = jumps_if-aimed (not (m.r0 == compared i m)) i width offset m
of-aimed Jgt i width offset n frame m jump = jumps_if-aimed (nat_lt (compared i m) m.r0) i width offset m
of-aimed Jlt i width offset n frame m jump = jumps_if-aimed (nat_lt m.r0 (compared i m)) i width offset m
of-aimed Jset i width offset n frame m jump = jumps_if-aimed (not (bit_and m.r0 (compared i m) == 0)) i width offset m
of-aimed Jnebs i width offset n frame m jump = bytes-aimed i width offset frame m
of-aimed _ i width offset n frame m jump = absurd cc

-- a jump that is written with another width and offset means the jump by that offset
pub meaning-aimed : (i : Instruction) (width offset n : ℕ) (frame : List ℕ) (m : State) → is_jump i.op ≡ true → meaning (aimed_at i width offset) n frame m ≡ aimed offset (meaning i n frame m)
unfolding meaning
meaning-aimed i width offset n frame m jump = of-aimed i.op i width offset n frame m jump

-- ---- what never jumps

-- a meaning that jumps nowhere
pub record IsNoJump (x : Meaning) : Type 0 where
  pub never : (offset : ℕ) → x ≡ Jump offset → ⊥

next : (m : State) → IsNoJump (Next m)
next m = record { never = λ offset e. cc }

fault : (kind : FaultKind) → IsNoJump (Fault kind)
fault kind = record { never = λ offset e. cc }

either : (b : Bool) (x y : Meaning) → IsNoJump x → IsNoJump y → IsNoJump (cond b x y)
either true x y p q = p
either false x y p q = q

loaded-no_jump : (reg : ℕ) (v : Option ℕ) (m : State) → IsNoJump (loaded reg v m)
loaded-no_jump reg (Some v) m = next _
loaded-no_jump reg None m = fault _

load-no_jump : (i : Instruction) (at width : ℕ) (frame : List ℕ) (m : State) → IsNoJump (load i at width frame m)
unfolding load
load-no_jump i at width frame m = loaded-no_jump i.reg (frame_number frame at width) m

extended-no_jump : (i : Instruction) (m : State) → IsNoJump (extended i m)
unfolding extended
extended-no_jump i m = search (either, next, fault) depth 15

load_data-no_jump : (i : Instruction) (n : ℕ) (m : State) → IsNoJump (load_data i n m)
unfolding load_data
load_data-no_jump i n m = either _ _ _ (next _) (fault _)

store_data-no_jump : (i : Instruction) (n : ℕ) (m : State) → IsNoJump (store_data i n m)
unfolding store_data
store_data-no_jump i n m = either _ _ _ (next _) (fault _)

of-no_jump : (op : Op) (i : Instruction) (n : ℕ) (frame : List ℕ) (m : State) → is_jump op ≡ false → IsNoJump (meaning_of op i n frame m)
of-no_jump Ldb i n frame m jump = load-no_jump i _ 1 frame m
of-no_jump Ldh i n frame m jump = load-no_jump i _ 2 frame m
of-no_jump Ldw i n frame m jump = load-no_jump i _ 4 frame m
of-no_jump Ldbx i n frame m jump = load-no_jump i _ 1 frame m
of-no_jump Ldhx i n frame m jump = load-no_jump i _ 2 frame m
of-no_jump Ldwx i n frame m jump = load-no_jump i _ 4 frame m
of-no_jump Add i n frame m jump = next _
of-no_jump Mul i n frame m jump = next _
of-no_jump Div i n frame m jump = either _ _ _ (fault _) (next _)
of-no_jump And i n frame m jump = next _
of-no_jump Or i n frame m jump = next _
of-no_jump Sh i n frame m jump = next _
of-no_jump Li i n frame m jump = next _
of-no_jump Ext i n frame m jump = extended-no_jump i m
of-no_jump Lddw i n frame m jump = load_data-no_jump i n m
of-no_jump Stdw i n frame m jump = store_data-no_jump i n m
of-no_jump _ i n frame m jump = absurd cc

-- the opcodes that jump are the only ones that do
pub meaning-no_jump : (i : Instruction) (n : ℕ) (frame : List ℕ) (m : State) → is_jump i.op ≡ false → IsNoJump (meaning i n frame m)
unfolding meaning
meaning-no_jump i n frame m jump = of-no_jump i.op i n frame m jump
