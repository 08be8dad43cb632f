-- A run keeps the length of its memory: only a store writes there, and it writes four bytes over four.
use Rattle.std.proofs.Common.{◌≡◌, ℕ, zero, suc, ◌+◌, ◌-◌, ◌≤◌, Bool, true, false, cond, eqb, List, ◌++◌, length, take, drop, Option, Some, None, refl, ap, ◌∙◌, arith}
use Rattle.std.specs.Prelude.{nat_le}
use Rattle.std.proofs.lemmas.Bool.{leb-true, and_parts}
use Rattle.std.proofs.lemmas.List.{length-append, length-take, length-drop}
use Rattle.apf_coding.specs.declared.instruction.Op.{Op}
use Rattle.apf_coding.specs.declared.instruction.Op.TheVariants.{Ldb, Ldh, Ldw, Ldbx, Ldhx, Ldwx, Add, Mul, Div, And, Or, Sh, Li, Jmp, Jeq, Jne, Jgt, Jlt, Jset, Jnebs, Ext, Lddw, Stdw}
use Rattle.apf_coding.specs.declared.machine.Verdict.{Verdict}
use Rattle.apf_coding.specs.declared.machine.Verdict.TheVariants.{Pass}
use Rattle.apf_coding.specs.declared.machine.FaultKind.{FaultKind}
use Rattle.apf_coding.specs.declared.machine.Why.{Why}
use Rattle.apf_coding.specs.declared.machine.Why.TheVariants as whys
use Rattle.apf_coding.specs.Words.{big_endian}
use Rattle.apf_coding.specs.Instruction.{Instruction}
use Rattle.apf_coding.specs.Meaning.{State, Meaning, Next, Jump, Fault, with_register, frame_number, load, loaded, compare_bytes, extended, load_data, store_data, address, is_inside, register, signed, jumps_if, meaning, meaning_of}
use Rattle.apf_coding.specs.Run.{Turn, More, Ended, Stopped, turn, turn_of, executed, Run, ended, out_of_budget, run_from, run, first_state}
use Rattle.apf_coding.proofs.Numbers.{length-big_endian}

-- ---- an instruction

abbrev kept : ℕ → Meaning → Type 0
kept size (Next m) = length m.memory ≡ size
kept size (Jump offset) = Unit {0}
kept size (Fault kind) = Unit {0}

-- a state that it goes on with has a memory of that length
pub record Keeps (size : ℕ) (x : Meaning) : Type 0 where
  pub length_stays : kept size x

next : (m : State) → Keeps (length m.memory) (Next m)
next m = record { length_stays = refl }

sets : (r0 r1 : ℕ) (slots memory : List ℕ) → Keeps (length memory) (Next (record { r0 = r0; r1 = r1; slots = slots; memory = memory }))
sets r0 r1 slots memory = record { length_stays = refl }

register_set : (reg v : ℕ) (m : State) → Keeps (length m.memory) (Next (with_register reg v m))
register_set reg v m = record { length_stays = ap length (same_memory (eqb reg 0)) }
  where
    same_memory : (b : Bool) → (cond b (record m { r0 = v }) (record m { r1 = v })).memory ≡ m.memory
    same_memory true = refl
    same_memory false = refl

jump : (size offset : ℕ) → Keeps size (Jump offset)
jump size offset = record { length_stays = tt }

fault : (size : ℕ) (kind : FaultKind) → Keeps size (Fault kind)
fault size kind = record { length_stays = tt }

either : (size : ℕ) (b : Bool) (x y : Meaning) → Keeps size x → Keeps size y → Keeps size (cond b x y)
either size true x y p q = p
either size false x y p q = q

either_when : (size : ℕ) (b : Bool) (x y : Meaning) → (b ≡ true → Keeps size x) → Keeps size y → Keeps size (cond b x y)
either_when size true x y p q = p refl
either_when size false x y p q = q

jumps_if-keeps : (taken : Bool) (i : Instruction) (m : State) → Keeps (length m.memory) (jumps_if taken i m)
jumps_if-keeps taken i m = either _ taken _ _ (jump _ _) (next m)

loaded-keeps : (reg : ℕ) (v : Option ℕ) (m : State) → Keeps (length m.memory) (loaded reg v m)
loaded-keeps reg (Some v) m = register_set reg v m
loaded-keeps reg None m = fault _ _

load-keeps : (i : Instruction) (at width : ℕ) (frame : List ℕ) (m : State) → Keeps (length m.memory) (load i at width frame m)
unfolding load
load-keeps i at width frame m = loaded-keeps i.reg (frame_number frame at width) m

compare_bytes-keeps : (i : Instruction) (frame : List ℕ) (m : State) → Keeps (length m.memory) (compare_bytes i frame m)
unfolding compare_bytes
compare_bytes-keeps i frame m = search (either, jumps_if-keeps, fault) depth 6

extended-keeps : (i : Instruction) (m : State) → Keeps (length m.memory) (extended i m)
unfolding extended
extended-keeps i m = search (either, sets, register_set, fault) depth 15

load_data-keeps : (i : Instruction) (n : ℕ) (m : State) → Keeps (length m.memory) (load_data i n m)
unfolding load_data
load_data-keeps i n m = either _ _ _ _ (register_set i.reg _ m) (fault _ _)

-- four bytes over four
length-stored : (k v : ℕ) (memory : List ℕ) → k + 4 ≤ length memory → length (take k memory ++ big_endian 4 v ++ drop (k + 4) memory) ≡ length memory
length-stored k v memory fits = omega (arith, length-append (take k memory ++ big_endian 4 v) (drop (k + 4) memory), length-append (take k memory) (big_endian 4 v), length-take k memory, length-drop (k + 4) memory, length-big_endian 4 v)

inside-fits : (at n : ℕ) (m : State) → is_inside at n m ≡ true → at - n + 4 ≤ length m.memory
inside-fits at n m e =
    let tests : (nat_le n at ≡ true) × (nat_le (at + 4) (n + length m.memory) ≡ true) = and_parts _ _ e in
    omega (arith, leb-true n at tests.0, leb-true (at + 4) (n + length m.memory) tests.1)

store_data-keeps : (i : Instruction) (n : ℕ) (m : State) → Keeps (length m.memory) (store_data i n m)
unfolding store_data
store_data-keeps i n m =
    either_when _ (is_inside (address i n m) n m) _ _ (λ inside. record { length_stays = length-stored (address i n m - n) (register i.reg m) m.memory (inside-fits (address i n m) n m inside) }) (fault _ _)

of-keeps : (op : Op) (i : Instruction) (n : ℕ) (frame : List ℕ) (m : State) → Keeps (length m.memory) (meaning_of op i n frame m)
of-keeps Ldb i n frame m = load-keeps i _ 1 frame m
of-keeps Ldh i n frame m = load-keeps i _ 2 frame m
of-keeps Ldw i n frame m = load-keeps i _ 4 frame m
of-keeps Ldbx i n frame m = load-keeps i _ 1 frame m
of-keeps Ldhx i n frame m = load-keeps i _ 2 frame m
of-keeps Ldwx i n frame m = load-keeps i _ 4 frame m
of-keeps Add i n frame m = sets _ _ _ _
of-keeps Mul i n frame m = sets _ _ _ _
of-keeps Div i n frame m = either _ _ _ _ (fault _ _) (sets _ _ _ _)
of-keeps And i n frame m = sets _ _ _ _
of-keeps Or i n frame m = sets _ _ _ _
of-keeps Sh i n frame m = sets _ _ _ _
of-keeps Li i n frame m = register_set i.reg (signed i) m
of-keeps Jmp i n frame m = jump _ _
of-keeps Jeq i n frame m = jumps_if-keeps _ i m
of-keeps Jne i n frame m = jumps_if-keeps _ i m
of-keeps Jgt i n frame m = jumps_if-keeps _ i m
of-keeps Jlt i n frame m = jumps_if-keeps _ i m
of-keeps Jset i n frame m = jumps_if-keeps _ i m
of-keeps Jnebs i n frame m = compare_bytes-keeps i frame m
of-keeps Ext i n frame m = extended-keeps i m
of-keeps Lddw i n frame m = load_data-keeps i n m
of-keeps Stdw i n frame m = store_data-keeps i n m

-- an instruction keeps the length of the memory
pub meaning-keeps : (i : Instruction) (n : ℕ) (frame : List ℕ) (m : State) → Keeps (length m.memory) (meaning i n frame m)
unfolding meaning
meaning-keeps i n frame m = of-keeps i.op i n frame m

-- ---- a turn

abbrev turn_kept : ℕ → Turn → Type 0
turn_kept size (More at m) = length m.memory ≡ size
turn_kept size (Ended verdict) = Unit {0}
turn_kept size (Stopped kind) = Unit {0}

turn_of-kept : (end : ℕ) (m : State) (x : Meaning) → kept (length m.memory) x → turn_kept (length m.memory) (turn_of end m x)
turn_of-kept end m (Next later) h = h
turn_of-kept end m (Jump offset) h = refl
turn_of-kept end m (Fault kind) h = tt

-- a turn goes on, if it does, with a memory of that length
record TurnKeeps (size : ℕ) (t : Turn) : Type 0 where
  pub length_stays : turn_kept size t

ended-keeps : (size : ℕ) (verdict : Verdict) → TurnKeeps size (Ended verdict)
ended-keeps size verdict = record { length_stays = tt }

stopped-keeps : (size : ℕ) (kind : FaultKind) → TurnKeeps size (Stopped kind)
stopped-keeps size kind = record { length_stays = tt }

either_turn : (size : ℕ) (b : Bool) (x y : Turn) → TurnKeeps size x → TurnKeeps size y → TurnKeeps size (cond b x y)
either_turn size true x y p q = p
either_turn size false x y p q = q

executed-keeps : (program frame : List ℕ) (place : ℕ) (m : State) (read : Option (Instruction × ℕ)) → TurnKeeps (length m.memory) (executed program frame place m read)
executed-keeps program frame place m None = stopped-keeps _ _
executed-keeps program frame place m (Some read) = record { length_stays = turn_of-kept read.1 m _ (meaning-keeps read.0 (length program) frame m).length_stays }

turn-keeps : (program frame : List ℕ) (place : ℕ) (m : State) → TurnKeeps (length m.memory) (turn program frame place m)
unfolding turn
turn-keeps program frame place m = search (either_turn, ended-keeps, stopped-keeps, executed-keeps) depth 8

-- ---- a run

-- a run leaves a memory of that length
record HasMemory (size : ℕ) (r : Run) : Type 0 where
  pub length_is : length r.memory ≡ size

ended-has : (verdict : Verdict) (steps : ℕ) (why : Why) (m : State) → HasMemory (length m.memory) (ended verdict steps why m)
ended-has verdict steps why m = record { length_is = refl }

either_run : (size : ℕ) (b : Bool) (x y : Run) → HasMemory size x → HasMemory size y → HasMemory size (cond b x y)
either_run size true x y p q = p
either_run size false x y p q = q

out_of_budget-has : (program : List ℕ) (steps place : ℕ) (m : State) → HasMemory (length m.memory) (out_of_budget program steps place m)
out_of_budget-has program steps place m = search (either_run, ended-has) depth 6

run_from-has : (left : ℕ) (program frame : List ℕ) (steps place : ℕ) (m : State) → HasMemory (length m.memory) (run_from left program frame steps place m)
unfolding run_from
run_from-has zero program frame steps place m = out_of_budget-has program steps place m
run_from-has (suc left) program frame steps place m =
    elim (turn program frame place m) as (λ t. turn_kept (length m.memory) t → HasMemory (length m.memory) (elim t [ More at state ↦ run_from left program frame (steps + 1) at state | Ended verdict ↦ ended verdict steps whys.Reached m | Stopped kind ↦ ended Pass steps (whys.Fault kind place) m ])) [
      | More at state ↦ λ h. record { length_is = (run_from-has left program frame (steps + 1) at state).length_is ∙ h }
      | Ended verdict ↦ λ h. record { length_is = refl }
      | Stopped kind ↦ λ h. record { length_is = refl }
    ] (turn-keeps program frame place m).length_stays

-- a run from any place keeps the length of the memory
pub run_from-keeps : (left : ℕ) (program frame : List ℕ) (steps place : ℕ) (m : State) → length (run_from left program frame steps place m).memory ≡ length m.memory
run_from-keeps left program frame steps place m = (run_from-has left program frame steps place m).length_is

run-has : (program memory frame : List ℕ) (age : ℕ) → HasMemory (length memory) (run program memory frame age)
unfolding run
run-has program memory frame age =
    let first : State = first_state program memory frame age in
    either_run (length memory) _ _ _ (run_from-has (length program) program frame 0 0 first) (ended-has Pass 0 whys.Short first)

-- and so does a whole run
pub run-keeps : (program memory frame : List ℕ) (age : ℕ) → length (run program memory frame age).memory ≡ length memory
run-keeps program memory frame age = (run-has program memory frame age).length_is
