-- Where a whole program ends.
use Rattle.std.proofs.Common.{◌≡◌, ◌≢◌, ℕ, ◌+◌, ◌<◌, ◌≤◌, List, [], ◌∷◌, ◌++◌, length, Some, None, refl, sym, ap, subst, ◌∙◌, arith}
use Rattle.std.specs.Prelude.{slice_index}
use Rattle.apf_coding.specs.declared.instruction.Op.TheVariants.{Jmp}
use Rattle.apf_coding.specs.declared.machine.Verdict.{Verdict}
use Rattle.apf_coding.specs.declared.machine.Verdict.TheVariants.{Pass, Drop}
use Rattle.apf_coding.specs.declared.machine.FaultKind.{FaultKind}
use Rattle.apf_coding.specs.declared.machine.FaultKind.TheVariants.{Frame}
use Rattle.apf_coding.specs.declared.machine.Why.TheVariants as whys
use Rattle.apf_coding.specs.Words.{word}
use Rattle.apf_coding.specs.Meaning.{State, Jump, meaning}
use Rattle.apf_coding.specs.Run.{first_state}
use Rattle.apf_asm.specs.declared.item.Item.TheVariants as items
use Rattle.apf_asm.specs.declared.item.Target.{Target}
use Rattle.apf_asm.specs.declared.item.Target.TheVariants as targets
use Rattle.apf_asm.specs.Items.{jump_instruction}
use Rattle.apf_asm.specs.Flow.{Ending, Reached, Stopped, Flow}
use Rattle.apf_asm.specs.Refusals.{stands}
use Rattle.apf_asm.specs.Correct.{why_of, run_of}
use Rattle.data_counters.specs.declared.counter.Counter.{Counter}
use Rattle.data_counters.specs.declared.counter.Counter.TheVariants.{TotalPackets}
use Rattle.data_counters.specs.Counters.{number_of}
use Rattle.data_counters.specs.Memory.{raised}
use Rattle.data_counters.proofs.Apart.{IsCounterNumber, number_of-range, length-raised}
use Rattle.policy_state.specs.declared.ruling.Ruling.{Ruling}
use Rattle.policy_state.specs.declared.ruling.Ruling.TheVariants as rulings
use Rattle.policy_state.specs.Whole.{Fate, Short, Missing, Says, fate_of}
use Rattle.apf_asm.specs.Building.{label_of, jump}
use Rattle.apf_asm.specs.Saying.{End, flow_end, ending_fault, with_registers, counted, FollowsSaid, IsReady}
use Rattle.apf_asm.proofs.Steps.{at, at-away, at-here, on-taken}
use Rattle.policy_state.specs.Rulings.{said_of}
use Rattle.apf_generate.specs.Means.{HasFate, EndsBy}
use Rattle.apf_generate.specs.Listing.{raising_items, end_items}
use Rattle.apf_generate.proofs.Raising.{on-raising}
use Rattle.apf_base.specs.Limits.{memory_size, program_limit}

-- ---- the two ends

abbrev pub end_with : Verdict → List ℕ → End
end_with verdict memory = record { verdict = verdict; fault = None; memory = memory }

distance_none : (c : Counter) → word (counted (number_of c) + 0) ≡ counted (number_of c)
distance_none c = let range : IsCounterNumber (number_of c) = number_of-range c in omega (arith, range.least, range.most)

jump_means : (n : ℕ) (frame : List ℕ) (m : State) (to : Target) → meaning (jump_instruction (record { op = Jmp; reg = 0; second = 0; bytes = []; to = to }) 0 0) n frame m ≡ Jump 0
unfolding meaning
jump_means n frame m to = refl

module _ (n : ℕ) (frame : List ℕ) (m : State) (c : Counter) where
  at_end : (verdict : Verdict) (r0 : ℕ) → n ≤ program_limit → length m.memory ≡ memory_size → at n frame (label_of verdict) end_items (with_registers r0 (counted (number_of c)) m) ≡ end_with verdict (raised c m.memory)
  unfolding stands
  at_end Pass r0 le len =
      at-here n frame 0 _ (with_registers r0 (counted (number_of c)) m)
      ∙ on-raising n frame m c 0 r0 (counted (number_of c)) _ le len (distance_none c)
      ∙ on-taken n frame _ _ _ (jump_means n frame _ targets.Pass)
  at_end Drop r0 le len =
      at-away n frame 1 (items.Label 0 ∷ (raising_items 0 ++ (jump targets.Pass ∷ []))) (items.Label 1 ∷ (raising_items 0 ++ (jump targets.Drop ∷ []))) (with_registers r0 (counted (number_of c)) m) refl
      ∙ at-here n frame 1 _ (with_registers r0 (counted (number_of c)) m)
      ∙ on-raising n frame m c 0 r0 (counted (number_of c)) _ le len (distance_none c)
      ∙ on-taken n frame _ _ _ (jump_means n frame _ targets.Drop)

-- how a flow of a whole program ends, by the fate of the frame
abbrev pub IsEnd : Fate → List ℕ → End → Type 0
IsEnd Short memory end = ⊥
IsEnd Missing memory end = end ≡ record { verdict = Pass; fault = Some Frame; memory = memory }
IsEnd (Says verdict c) memory end = end ≡ end_with verdict (raised c memory)

-- what is said comes to its end
pub ended_as : (n : ℕ) (frame : List ℕ) (m : State) (ruling : Ruling) (end : End) → ruling ≢ rulings.Silent → n ≤ program_limit → length m.memory ≡ memory_size → FollowsSaid (said_of ruling) end_items n frame m end → IsEnd (fate_of ruling) m.memory end
ended_as n frame m rulings.Silent end speaks le len h = absurd (speaks refl)
ended_as n frame m rulings.Missing end speaks le len h = h
ended_as n frame m (rulings.Says verdict c) end speaks le len h = h.1 ∙ at_end n frame m c verdict h.0 le len

-- ---- behind the opening

pub ready_first : (n age : ℕ) (frame program memory : List ℕ) (r0 : ℕ) → 14 < length frame → ((k : ℕ) → slice_index frame k < 256) → n ≡ length program → length memory ≡ memory_size
    → IsReady n frame age (record { r0 = r0; r1 = 0; slots = (first_state program memory frame age).slots; memory = raised TotalPackets memory })
ready_first n age frame program memory r0 long bytes e len = record {
  long = long;
  bytes = bytes;
  slots = rw (e, len) refl;
  memory = length-raised TotalPackets memory len;
}

-- ---- a flow's end, as a run

why_reached : (places : List ℕ) (verdict : Verdict) (c : Counter) (ending : Ending) → ending_fault ending ≡ None → EndsBy (Says verdict c) (why_of places ending)
why_reached places verdict c Reached e = tt
why_reached places verdict c (Stopped kind item) e = absurd cc

why_missing : (places : List ℕ) (ending : Ending) → ending_fault ending ≡ Some Frame → EndsBy Missing (why_of places ending)
why_missing places Reached e = absurd cc
why_missing places (Stopped kind item) e =
    let same : kind ≡ Frame = cc in
    subst (λ (k : FaultKind). EndsBy Missing (whys.Fault k (slice_index places item))) (sym same) tt

pub fate_from : (places memory : List ℕ) (f : Flow) (fate : Fate) → IsEnd fate (raised TotalPackets memory) (flow_end f) → HasFate fate memory (run_of places 0 f)
fate_from places memory f Short h = absurd h
fate_from places memory f Missing h = record { verdict = ap (λ (e : End). e.verdict) h; left = ap (λ (e : End). e.memory) h; why = why_missing places f.ending (ap (λ (e : End). e.fault) h) }
fate_from places memory f (Says verdict c) h = record { verdict = ap (λ (e : End). e.verdict) h; left = ap (λ (e : End). e.memory) h; why = why_reached places verdict c f.ending (ap (λ (e : End). e.fault) h) }
