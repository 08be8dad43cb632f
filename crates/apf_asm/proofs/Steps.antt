-- Where a flow ends, one item at a time.
use Rattle.std.proofs.Common.{◌≡◌, ℕ, Bool, true, false, cond, eqb, List, [], ◌∷◌, ◌++◌, Option, refl, ap, ◌∙◌}
use Rattle.std.specs.Prelude.{◌||◌}
use Rattle.std.proofs.lemmas.Bool.{eq-eqb}
use Rattle.apf_coding.specs.declared.machine.FaultKind.{FaultKind}
use Rattle.apf_coding.specs.Meaning.{State, Meaning, Next, Jump, Fault, meaning}
use Rattle.apf_asm.specs.declared.item.Fixed.{Fixed}
use Rattle.apf_asm.specs.declared.item.Jump.{Jump as JumpItem}
use Rattle.apf_asm.specs.declared.item.Item.{Item}
use Rattle.apf_asm.specs.declared.item.Item.TheVariants as items
use Rattle.apf_asm.specs.declared.item.Target.{Target}
use Rattle.apf_asm.specs.Items.{fixed_instruction, jump_instruction, marks}
use Rattle.apf_asm.specs.Flow.{Ending, Reached, Stopped, Flow, stopped, one_later, behind, behind_step, follows, goes_to, flow, flow_at}
use Rattle.apf_asm.specs.Refusals.{stands}
use Rattle.apf_asm.specs.Saying.{End, ending_fault, flow_end}

fault_later : (e : Ending) → ending_fault (one_later e) ≡ ending_fault e
fault_later Reached = refl
fault_later (Stopped kind item) = refl

abbrev ending_with : Flow → Option FaultKind → End
ending_with f fault = record { verdict = f.verdict; fault = fault; memory = f.memory }

same_end : (f : Flow) (a b : Option FaultKind) → a ≡ b → ending_with f a ≡ ending_with f b
same_end f a b e = ap (ending_with f) e

pub end-behind : (f : Flow) → flow_end (behind f) ≡ flow_end f
end-behind f = same_end f _ _ (fault_later f.ending)

pub end-behind_step : (f : Flow) → flow_end (behind_step f) ≡ flow_end f
end-behind_step f = same_end f _ _ (fault_later f.ending)

module _ (n : ℕ) (frame : List ℕ) where
  -- from the first of the items on, from a label on, and from a jump's target on
  abbrev pub on : List Item → State → End
  on xs m = flow_end (flow xs n frame m)

  abbrev pub at : ℕ → List Item → State → End
  at l xs m = flow_end (flow_at l xs n frame m)

  abbrev pub onto : Target → List Item → State → End
  onto to xs m = flow_end (goes_to to (λ l. flow_at l xs n frame) m)

  -- ---- one item

  pub on-label : (l : ℕ) (xs : List Item) (m : State) → on (items.Label l ∷ xs) m ≡ on xs m
  unfolding flow
  on-label l xs m = end-behind (flow xs n frame m)

  pub on-next : (f : Fixed) (xs : List Item) (m next : State) → meaning (fixed_instruction f) n frame m ≡ Next next → on (items.Fixed f ∷ xs) m ≡ on xs next
  unfolding flow
  on-next f xs m next e =
      ap (λ (x : Meaning). flow_end (follows x (flow xs n frame) (flow xs n frame) m)) e
      ∙ end-behind_step (flow xs n frame next)

  pub on-fault : (f : Fixed) (xs : List Item) (m : State) (kind : FaultKind) → meaning (fixed_instruction f) n frame m ≡ Fault kind → on (items.Fixed f ∷ xs) m ≡ flow_end (stopped kind m)
  unfolding flow
  on-fault f xs m kind e = ap (λ (x : Meaning). flow_end (follows x (flow xs n frame) (flow xs n frame) m)) e

  pub on-jump_fault : (j : JumpItem) (xs : List Item) (m : State) (kind : FaultKind) → meaning (jump_instruction j 0 0) n frame m ≡ Fault kind → on (items.Jump j ∷ xs) m ≡ flow_end (stopped kind m)
  unfolding flow
  on-jump_fault j xs m kind e = ap (λ (x : Meaning). flow_end (follows x (flow xs n frame) (goes_to j.to (λ l. flow_at l xs n frame)) m)) e

  pub on-taken : (j : JumpItem) (xs : List Item) (m : State) → meaning (jump_instruction j 0 0) n frame m ≡ Jump 0 → on (items.Jump j ∷ xs) m ≡ onto j.to xs m
  unfolding flow
  on-taken j xs m e =
      ap (λ (x : Meaning). flow_end (follows x (flow xs n frame) (goes_to j.to (λ l. flow_at l xs n frame)) m)) e
      ∙ end-behind_step (goes_to j.to (λ l. flow_at l xs n frame) m)

  pub on-not_taken : (j : JumpItem) (xs : List Item) (m : State) → meaning (jump_instruction j 0 0) n frame m ≡ Next m → on (items.Jump j ∷ xs) m ≡ on xs m
  unfolding flow
  on-not_taken j xs m e =
      ap (λ (x : Meaning). flow_end (follows x (flow xs n frame) (goes_to j.to (λ l. flow_at l xs n frame)) m)) e
      ∙ end-behind_step (flow xs n frame m)

  -- ---- from a label on

  at_passed : (b c : Bool) (l : ℕ) (xs : List Item) (m : State) → b ≡ false → flow_end ((cond b (flow xs n frame) (flow_at l xs n frame)) m) ≡ at l xs m
  at_passed true c l xs m e = absurd cc
  at_passed false c l xs m e = refl

  passed : (b c : Bool) → (b || c) ≡ false → (b ≡ false) × (c ≡ false)
  passed true c e = absurd cc
  passed false c e = (refl, e)

  -- items without the label are passed over
  pub at-away : (l : ℕ) (xs rest : List Item) (m : State) → stands l xs ≡ false → at l (xs ++ rest) m ≡ at l rest m
  unfolding flow flow_at stands
  at-away l [] rest m e = refl
  at-away l (x ∷ xs) rest m e =
      let p = passed (marks l x) (stands l xs) e in
      end-behind ((cond (marks l x) (flow (xs ++ rest) n frame) (flow_at l (xs ++ rest) n frame)) m)
      ∙ at_passed (marks l x) (stands l xs) l (xs ++ rest) m p.0
      ∙ at-away l xs rest m p.1

  at_marked : (b : Bool) (l : ℕ) (xs : List Item) (m : State) → b ≡ true → flow_end ((cond b (flow xs n frame) (flow_at l xs n frame)) m) ≡ on xs m
  at_marked true l xs m e = refl
  at_marked false l xs m e = absurd cc

  pub at-here : (l : ℕ) (xs : List Item) (m : State) → at l (items.Label l ∷ xs) m ≡ on xs m
  unfolding flow flow_at
  at-here l xs m =
      end-behind ((cond (eqb l l) (flow xs n frame) (flow_at l xs n frame)) m)
      ∙ at_marked (eqb l l) l xs m (eq-eqb l l refl)
