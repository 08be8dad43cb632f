-- The runs of an orderly program end.
use Rattle.std.proofs.Common.{◌≡◌, ℕ, zero, suc, ◌+◌, ◌<◌, ◌≤◌, Bool, true, false, cond, eqb, List, [], ◌∷◌, length, None, refl, sym, ap, subst, ◌∙◌, arith, inl, inr}
use Rattle.std.specs.Prelude.{not, ◌&&◌, nat_lt}
use Rattle.std.proofs.lemmas.Bool.{cases_eq, cases_lt, ltb-false, ne_eqb, lt-ltb}
use Rattle.apf_coding.specs.declared.machine.Verdict.{Verdict}
use Rattle.apf_coding.specs.declared.machine.Verdict.TheVariants.{Pass, Drop}
use Rattle.apf_coding.specs.declared.machine.FaultKind.{FaultKind}
use Rattle.apf_coding.specs.declared.machine.Why.TheVariants as whys
use Rattle.apf_coding.specs.Meaning.{State, Meaning, Next, Jump, Fault, meaning}
use Rattle.apf_coding.specs.Run.{Run, ended, run_from, run, first_state}
use Rattle.apf_coding.proofs.Spelling.{begins-instruction_at}
use Rattle.apf_coding.proofs.Running.{run-pass, run-drop, run-next, run-jump, run-fault}
use Rattle.apf_check.specs.Orderly.{Part, Stand, is_place, target, first_flaw, IsOrderly}
use Rattle.apf_check.specs.Ends.{IsOfData, EndsWithin}
use Rattle.apf_check.proofs.Rightness.{IsRight, no_flaws}
use Rattle.apf_check.proofs.Meanings.{meaning-faults, meaning-jumps}

-- ---- endings

reached : (most : ℕ) (v : Verdict) (steps : ℕ) (m : State) → steps ≤ most → EndsWithin most (ended v steps whys.Reached m)
reached most v steps m le = record { steps = le; budget = λ e. cc; faults = λ kind at e. absurd cc }

short : (most : ℕ) (m : State) → EndsWithin most (ended Pass 0 whys.Short m)
short most m = record { steps = omega arith; budget = λ e. cc; faults = λ kind at e. absurd cc }

stopped : (most steps place : ℕ) (m : State) (kind : FaultKind) → steps ≤ most → IsOfData kind → EndsWithin most (ended Pass steps (whys.Fault kind place) m)
stopped most steps place m kind le data_fault = record { steps = le; budget = λ e. cc; faults = λ other at e. subst IsOfData (same_kind kind other place at e) data_fault }
  where
    same_kind : (a b : FaultKind) (p q : ℕ) → whys.Fault a p ≡ whys.Fault b q → a ≡ b
    same_kind a b p q e = cc

weaker : (few most : ℕ) (r : Run) → few ≤ most → EndsWithin few r → EndsWithin most r
weaker few most r le e = let steps = e.steps in record { steps = omega arith; budget = e.budget; faults = e.faults }

-- ---- the instructions from a place on

-- they stand to the program's end, none has a flaw, and each later place is one of theirs
record Rest (program : List ℕ) (begins : ℕ → Bool) (parts : List Part) (at : ℕ) : Type 0 where
  pub stand : Stand program at parts (length program)
  pub right : first_flaw (length program) begins parts ≡ None
  pub later : (k : ℕ) → at ≤ k → begins k ≡ true → is_place parts k ≡ true

behind_first : (p : Part) (parts : List Part) (k : ℕ) → p.place < k → is_place (p ∷ parts) k ≡ true → is_place parts k ≡ true
behind_first p parts k lt is = let other : eqb p.place k ≡ false = ne_eqb _ _ (λ e. omega arith) in rw other at is

-- those behind the first
advance : (program : List ℕ) (begins : ℕ → Bool) (p : Part) (parts : List Part) (at : ℕ) → Rest program begins (p ∷ parts) at → Rest program begins parts p.end
advance program begins p parts at r =
    let s = r.stand in
    let order = s.1.order in
    record {
      stand = s.2;
      right = (no_flaws (length program) begins p parts r.right).1;
      later = λ k le is. let place : p.place ≡ at = s.0 in behind_first p parts k (omega arith) (r.later k (omega arith) is);
    }

no_earlier : (program : List ℕ) (parts : List Part) (at to k : ℕ) → Stand program at parts to → is_place parts k ≡ true → at ≤ k
no_earlier program [] at to k s is = absurd cc
no_earlier program (p ∷ parts) at to k s is = elim (cases_eq p.place k) [
  | inl e ↦ let place : p.place ≡ at = s.0 in omega arith
  | inr ne ↦
      let other : eqb p.place k ≡ false = ne_eqb _ _ ne in
      let more : is_place parts k ≡ true = rw other at is in
      let le = no_earlier program parts p.end to k s.2 more in
      let order = s.1.order in
      omega arith
]

-- those from a later place on
reach : (program : List ℕ) (begins : ℕ → Bool) (parts : List Part) (at k : ℕ) → Rest program begins parts at → is_place parts k ≡ true → (rest : List Part) × Rest program begins rest k × (length rest ≤ length parts)
reach program begins [] at k r is = absurd cc
reach program begins (p ∷ parts) at k r is = elim (cases_eq p.place k) [
  | inl e ↦
      let place : p.place ≡ at = r.stand.0 in
      (p ∷ parts, subst (Rest program begins (p ∷ parts)) (sym place ∙ e) r, omega arith)
  | inr ne ↦
      let other : eqb p.place k ≡ false = ne_eqb _ _ ne in
      let more : is_place parts k ≡ true = rw other at is in
      let found = reach program begins parts p.end k (advance program begins p parts at r) more in
      (found.0, found.1, (let le = found.2 in omega arith))
]

-- ---- a run from a place on

-- from each later place, with as many steps left as instructions
abbrev Onward : ℕ → List ℕ → List ℕ → (ℕ → Bool) → Type 0
Onward left program frame begins = (parts : List Part) (steps at : ℕ) (m : State) → Rest program begins parts at → length parts ≤ left → EndsWithin (steps + length parts) (run_from left program frame steps at m)

lands : (a b : Bool) → a ≡ true → (a && not b) ≡ false → b ≡ true
lands true true e f = refl
lands true false e f = absurd cc
lands false b e f = absurd cc

jumped : (left : ℕ) (program frame : List ℕ) (begins : ℕ → Bool) (p : Part) (parts : List Part) (steps at : ℕ) (m : State) → Onward left program frame begins
    → Rest program begins (p ∷ parts) at → length parts ≤ left → IsRight (length program) begins p → meaning p.instruction (length program) frame m ≡ Jump p.instruction.imm → EndsWithin (steps + suc (length parts)) (run_from left program frame (steps + 1) (target p) m)
jumped left program frame begins p parts steps at m onward r few right e =
    let jump = (meaning-jumps p.instruction (length program) frame m p.instruction.imm e).0 in
    let past : nat_lt (length program + 1) (target p) ≡ false = right.reach jump in
    let back : nat_lt (target p) p.end ≡ false = right.forward jump in
    let within : target p ≤ length program + 1 = ltb-false _ _ past in
    let forward : p.end ≤ target p = ltb-false _ _ back in
    elim (cases_lt (target p) (length program)) [
      | inl lt ↦
          let begins_there : begins (target p) ≡ true = lands (nat_lt (target p) (length program)) (begins (target p)) (lt-ltb _ _ lt) (right.landing jump) in
          let next = advance program begins p parts at r in
          let found = reach program begins parts p.end (target p) next (next.later (target p) forward begins_there) in
          let fewer = found.2 in
          weaker (steps + 1 + length found.0) _ _ (omega arith) (onward found.0 (steps + 1) (target p) m found.1 (omega arith))
      | inr ge ↦ elim (cases_eq (target p) (length program)) [
        | inl same ↦ rw (run-pass left program frame (steps + 1) (target p) m same) (reached _ Pass (steps + 1) m (omega arith))
        | inr ne ↦ rw (run-drop left program frame (steps + 1) (target p) m (omega arith)) (reached _ Drop (steps + 1) m (omega arith))
      ]
    ]

one_step : (left : ℕ) (program frame : List ℕ) (begins : ℕ → Bool) (p : Part) (parts : List Part) (steps at : ℕ) (m : State) (x : Meaning) → Onward left program frame begins
    → Rest program begins (p ∷ parts) at → length parts ≤ left → meaning p.instruction (length program) frame m ≡ x → EndsWithin (steps + suc (length parts)) (run_from (suc left) program frame steps at m)
one_step left program frame begins p parts steps at m (Next later) onward r few e =
    let b = r.stand.1 in
    let order = b.order in
    let inside = b.within in
    rw (run-next left program frame steps at m later p.instruction p.end (omega arith) (begins-instruction_at program at p.instruction p.end b) e)
    (weaker (steps + 1 + length parts) _ _ (omega arith) (onward parts (steps + 1) p.end later (advance program begins p parts at r) few))
one_step left program frame begins p parts steps at m (Jump offset) onward r few e =
    let b = r.stand.1 in
    let order = b.order in
    let inside = b.within in
    let by = (meaning-jumps p.instruction (length program) frame m offset e).1 in
    let own : meaning p.instruction (length program) frame m ≡ Jump p.instruction.imm = e ∙ ap Jump by in
    rw (run-jump left program frame steps at m p.instruction.imm p.instruction p.end (omega arith) (begins-instruction_at program at p.instruction p.end b) own)
    (jumped left program frame begins p parts steps at m onward r few (no_flaws (length program) begins p parts r.right).0 own)
one_step left program frame begins p parts steps at m (Fault kind) onward r few e =
    let b = r.stand.1 in
    let order = b.order in
    let inside = b.within in
    let right = (no_flaws (length program) begins p parts r.right).0 in
    rw (run-fault left program frame steps at m kind p.instruction p.end (omega arith) (begins-instruction_at program at p.instruction p.end b) e)
    (stopped _ steps at m kind (omega arith) ((meaning-faults p.instruction (length program) frame m right.ext right.compare).only kind e))

run_from-ends : (left : ℕ) (program frame : List ℕ) (begins : ℕ → Bool) → Onward left program frame begins
run_from-ends left program frame begins [] steps at m r few = rw (run-pass left program frame steps at m r.stand) (reached _ Pass steps m (omega arith))
run_from-ends zero program frame begins (p ∷ parts) steps at m r few = absurd (omega arith)
run_from-ends (suc left) program frame begins (p ∷ parts) steps at m r few =
    one_step left program frame begins p parts steps at m (meaning p.instruction (length program) frame m) (run_from-ends left program frame begins) r (omega arith) refl

-- ---- a whole run

pub count_fits : (program : List ℕ) (parts : List Part) (at to : ℕ) → Stand program at parts to → at + length parts ≤ to
count_fits program [] at to s = omega arith
count_fits program (p ∷ parts) at to s =
    let order = s.1.order in
    let more = count_fits program parts p.end to s.2 in
    omega arith

cond_ends : (b : Bool) (most : ℕ) (x y : Run) → EndsWithin most x → EndsWithin most y → EndsWithin most (cond b x y)
cond_ends true most x y p q = p
cond_ends false most x y p q = q

pub run-ends : (program memory frame : List ℕ) (age count : ℕ) → IsOrderly program count → EndsWithin count (run program memory frame age)
unfolding run
run-ends program memory frame age count o =
    let first : State = first_state program memory frame age in
    let fits = count_fits program o.parts 0 (length program) o.fill in
    let all : Rest program (is_place o.parts) o.parts 0 = record { stand = o.fill; right = o.right; later = λ k le is. is } in
    let many = o.many in
    cond_ends _ count _ _ (weaker (0 + length o.parts) count _ (omega arith) (run_from-ends (length program) program frame (is_place o.parts) o.parts 0 0 first all (omega arith))) (short count first)
