-- Any items that answer the policy's questions mean it, between the opening and the ends.
use Rattle.std.proofs.Common.{◌≡◌, ℕ, zero, suc, ◌+◌, ◌<◌, ◌≤◌, Bool, true, false, cond, ltb, List, [], ◌∷◌, ◌++◌, length, None, refl, sym, subst, arith, lit<, inl, inr}
use Rattle.std.specs.Prelude.{All, slice_index}
use Rattle.std.proofs.lemmas.Bool.Decides.{nat_tests}
use Rattle.std.proofs.lemmas.List.{length-append}
use Rattle.std.proofs.lemmas.List.Elements.{All-from_recursion, All-append}
use Rattle.apf_coding.specs.declared.instruction.Op.{Op}
use Rattle.apf_coding.specs.declared.instruction.Op.TheVariants.{Lddw, Stdw, Add}
use Rattle.apf_coding.specs.declared.machine.Verdict.TheVariants.{Pass}
use Rattle.apf_coding.specs.declared.machine.Why.TheVariants as whys
use Rattle.apf_coding.specs.Run.{Run, run, ended, first_state}
use Rattle.apf_asm.specs.declared.item.Item.{Item}
use Rattle.apf_asm.specs.declared.item.Target.TheVariants as targets
use Rattle.apf_asm.specs.Items.{IsItemForm, IsLabelled, item_limit}
use Rattle.apf_asm.specs.Flow.{flow}
use Rattle.apf_asm.specs.Layout.{layout}
use Rattle.apf_asm.specs.Refusals.{stands, refusal}
use Rattle.apf_asm.proofs.Narrowing.{length-code-le}
use Rattle.apf_asm.proofs.Whole.{runs_as}
use Rattle.data_counters.specs.declared.counter.Counter.TheVariants.{TotalPackets}
use Rattle.data_counters.specs.Memory.{raised}
use Rattle.data_counters.proofs.Apart.{length-raised}
use Rattle.policy_state.specs.declared.basis.Basis.{Basis}
use Rattle.policy_state.specs.Asking.{first_of}
use Rattle.policy_state.specs.Policy.{questions}
use Rattle.policy_state.specs.Whole.{Short, fate_of}
use Rattle.policy_state.proofs.Verdicts.{questions-answer}
use Rattle.apf_asm.specs.Building.{fixed}
use Rattle.apf_asm.specs.Saying.{End, flow_end}
use Rattle.apf_asm.specs.Fragment.{IsApart, AreFresh, IsPart, labels}
use Rattle.apf_asm.proofs.Forms.{IsSound, forms_of, label_form_of, sound-byte, labels-append, form-fixed, form-jump}
use Rattle.apf_asm.proofs.Parts.{length-items, sound-fragment, wide-append}
use Rattle.apf_asm.proofs.Settled.{AllLead, AllApart, none_refused, lead-append}
use Rattle.apf_generate.specs.Means.{HasFate, Means}
use Rattle.apf_generate.specs.Program.{asked}
use Rattle.apf_generate.specs.Listing.{opening_items, end_items, between_ends}
use Rattle.apf_generate.proofs.Raising.{on-raising}
use Rattle.apf_generate.proofs.Ends.{IsEnd, ended_as, ready_first, fate_from}
use Rattle.apf_base.specs.Limits.{memory_size, program_limit}
use Rattle.policy_state.specs.Rooms.{ends_room}

-- ---- labels

apart-ends : (l : ℕ) (ks : List ℕ) → 2 ≤ l → IsApart l ks → IsApart l (ks ++ (0 ∷ 1 ∷ []))
apart-ends l [] le h = ((λ e. absurd (omega arith)), ((λ e. absurd (omega arith)), tt))
apart-ends l (k ∷ ks) le h = (h.0, apart-ends l ks le h.1)

all_apart-ends : (to : ℕ) (ls : List ℕ) → AreFresh 2 to ls → AllApart (ls ++ (0 ∷ 1 ∷ []))
all_apart-ends to [] fresh = (((λ e. absurd (omega arith)), tt), (tt, tt))
all_apart-ends to (l ∷ ls) fresh = (apart-ends l ls fresh.0 fresh.2, all_apart-ends to ls fresh.3)

raises : (op : Op) (imm : ℕ) → imm < 256 → IsItemForm (fixed op 0 1 imm)
raises op imm lt = form-fixed op 0 1 imm (lit< tt) (inr (inl refl)) lt

end_forms : All IsItemForm end_items
end_forms = All-from_recursion IsItemForm end_items (
  tt,
  (
    raises Lddw 0 (lit< tt),
    (
      raises Add 1 (lit< tt),
      (
        raises Stdw 0 (lit< tt),
        (
          form-jump targets.Pass,
          (tt, (raises Lddw 0 (lit< tt), (raises Add 1 (lit< tt), (raises Stdw 0 (lit< tt), (form-jump targets.Drop, tt))))),
        ),
      ),
    ),
  ),
)

end_labelled : All IsLabelled end_items
end_labelled = All-from_recursion IsLabelled end_items (tt, (refl, (refl, (refl, (tt, (tt, (refl, (refl, (refl, (tt, tt))))))))))

ends_stand : (l : ℕ) → l < 2 → stands l end_items ≡ true
unfolding stands
ends_stand zero lt = refl
ends_stand (suc zero) lt = refl
ends_stand (suc (suc l)) lt = absurd (omega arith)

module _ (basis : Basis) (to most : ℕ) (xs : List Item) (part : IsPart (asked basis) 2 to most xs) (small : most ≤ 65000) where
  front : IsSound (opening_items ++ xs)
  front = sound-byte Lddw 0 252 _ refl (lit< tt) (lit< tt) (sound-byte Add 0 1 _ refl (lit< tt) (lit< tt) (sound-byte Stdw 0 252 _ refl (lit< tt) (lit< tt) (sound-fragment 2 to most xs part.form)))

  pub forms : All IsItemForm (between_ends xs)
  forms = All-append IsItemForm (opening_items ++ xs) end_items (forms_of (opening_items ++ xs) front.each) end_forms

  pub labelled : All IsLabelled (between_ends xs)
  labelled = All-append IsLabelled (opening_items ++ xs) end_items (label_form_of (opening_items ++ xs) front.each) end_labelled

  leads : AllLead (between_ends xs)
  leads = lead-append (opening_items ++ xs) end_items front.each ends_stand (tt, (tt, (tt, (tt, (tt, (tt, (tt, (tt, (tt, (tt, tt))))))))))

  labels-are : labels (between_ends xs) ≡ labels xs ++ (0 ∷ 1 ∷ [])
  unfolding labels
  labels-are = labels-append xs end_items

  pub not_refused : refusal (between_ends xs) ≡ None
  unfolding stands
  not_refused = none_refused (between_ends xs) [] 0 leads (subst (λ (ls : List ℕ). AllApart ls) (sym labels-are) (all_apart-ends to (labels xs) part.form.fresh)) (λ l there. refl)

  pub few_items : to ≤ 100000 → length (between_ends xs) ≤ item_limit
  few_items le = omega (arith, length-items xs, part.form.short, part.form.drawn, length-append xs end_items)

  abbrev pub bytes : List ℕ
  bytes = (layout (between_ends xs)).bytes

  pub length-bytes : length bytes ≤ most + ends_room
  length-bytes = omega (arith, length-code-le (between_ends xs), wide-append (opening_items ++ xs) end_items, wide-append opening_items xs, part.form.short)

  ends : (age : ℕ) (frame memory : List ℕ) → 14 < length frame → ((k : ℕ) → slice_index frame k < 256) → length memory ≡ memory_size
      → IsEnd (fate_of (first_of (questions basis age frame))) (raised TotalPackets memory) (flow_end (flow (between_ends xs) (length bytes) frame (first_state bytes memory frame age)))
  ends age frame memory long bytes_in len =
      let n = length bytes in
      let le : length bytes ≤ program_limit = omega (arith, length-bytes) in
      let first = first_state bytes memory frame age in
      let raising = on-raising n frame first TotalPackets 252 0 0 (xs ++ end_items) le len refl in
      let told = part.tells.tells n frame age _ end_items (ready_first n age frame bytes memory _ long bytes_in refl len) in
      subst (λ (end : End). IsEnd (fate_of (first_of (questions basis age frame))) (raised TotalPackets memory) end) (sym raising)
      (ended_as n frame _ (first_of (questions basis age frame)) _ (questions-answer basis age frame) le (length-raised TotalPackets memory len) told)

  long_frame : (age : ℕ) (frame memory : List ℕ) → 14 < length frame → ((k : ℕ) → slice_index frame k < 256) → length memory ≡ memory_size → HasFate (fate_of (first_of (questions basis age frame))) memory (run bytes memory frame age)
  long_frame age frame memory long bytes_in len =
      let le : length bytes ≤ program_limit = omega (arith, length-bytes) in
      subst (λ (r : Run). HasFate (fate_of (first_of (questions basis age frame))) memory r)
      (sym (runs_as (between_ends xs) forms labelled not_refused le memory frame age long))
      (fate_from (layout (between_ends xs)).places memory (flow (between_ends xs) (length bytes) frame (first_state bytes memory frame age)) _ (ends age frame memory long bytes_in len))

  short_run : (age : ℕ) (frame memory : List ℕ) (b : Bool) (r : Run) → b ≡ false → HasFate Short memory (cond b r (ended Pass 0 whys.Short (first_state bytes memory frame age)))
  short_run age frame memory true r e = absurd cc
  short_run age frame memory false r e = record { verdict = refl; left = refl; why = tt }

  short_frame : (age : ℕ) (frame memory : List ℕ) → ltb 14 (length frame) ≡ false → HasFate Short memory (run bytes memory frame age)
  unfolding run
  short_frame age frame memory e = short_run age frame memory (ltb 14 (length frame)) _ e

  any_frame : (age : ℕ) (frame memory : List ℕ) (b : Bool) → ltb 14 (length frame) ≡ b → ((k : ℕ) → slice_index frame k < 256) → length memory ≡ memory_size → HasFate (cond b (fate_of (first_of (questions basis age frame))) Short) memory (run bytes memory frame age)
  any_frame age frame memory true e bytes_in len = long_frame age frame memory (grind (arith, nat_tests)) bytes_in len
  any_frame age frame memory false e bytes_in len = short_frame age frame memory e

  pub means_of : Means bytes basis
  means_of = record { means = λ frame age memory bytes_in some old len. any_frame age frame memory (ltb 14 (length frame)) refl bytes_in len }
