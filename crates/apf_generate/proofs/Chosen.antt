-- The fragments of the chosen records, one behind the other.
use Rattle.std.proofs.Common.{◌≡◌, ℕ, ◌+◌, ◌*◌, ◌<◌, ◌≤◌, List, [], ◌∷◌, ◌++◌, length, map, take, get_or, refl, sym, ap, subst, ◌∙◌, append_assoc, arith}
use Rattle.std.proofs.lemmas.List.{take_more, length-append}
use Rattle.std.proofs.lemmas.List.Sums.{sum_by-cons, sum_by_push}
use Rattle.apf_asm.specs.declared.item.Item.{Item}
use Rattle.policy_state.specs.declared.basis.Chosen.{Chosen}
use Rattle.policy_state.specs.declared.ruling.Ruling.{Ruling}
use Rattle.policy_state.specs.declared.ruling.Ruling.TheVariants.{Silent}
use Rattle.policy_state.specs.Asking.{otherwise, first_of}
use Rattle.policy_state.specs.Records.{advertised_again}
use Rattle.policy_state.proofs.AskingLaws.{otherwise-assoc, otherwise-silent}
use Rattle.apf_asm.specs.Fragment.{Emits, IsPart, labels}
use Rattle.policy_state.specs.Rulings.{said_of}
use Rattle.apf_asm.proofs.Forms.{sound-nil}
use Rattle.apf_asm.proofs.Parts.{fragment-of, part-then, part-same}
use Rattle.apf_asm.proofs.Rules.{done, told}
use Rattle.policy_state.proofs.Rulings.{rulings, said-otherwise}
use Rattle.size_fit.specs.Sizes.{weight}
use Rattle.apf_generate.specs.Program.{AddsRecords}
use Rattle.apf_generate.specs.Sizes.{weights}
use Rattle.policy_state.specs.Weights.{record_weight}

-- each record weighs at least 29
pub records_few : (chosen : List Chosen) → record_weight * length chosen ≤ weights chosen
records_few [] = omega arith
records_few (one ∷ chosen) = omega (arith, records_few chosen, sum_by-cons (λ (one : Chosen). weight one.advert) one chosen)

first_of-push : (ask : Chosen → Ruling) (chosen : List Chosen) (one : Chosen) → first_of (map ask (chosen ++ one ∷ [])) ≡ otherwise (first_of (map ask chosen)) (ask one)
first_of-push ask [] one = otherwise-silent (ask one)
first_of-push ask (c ∷ chosen) one = ap (otherwise (ask c)) (first_of-push ask chosen one) ∙ sym (otherwise-assoc (ask c) (first_of (map ask chosen)) (ask one))

-- no records, no items
pub no_records : (from : ℕ) → IsPart (λ age frame. said_of Silent) from from 0 []
unfolding labels
no_records from = record {
  form = fragment-of from from 0 [] sound-nil (omega arith) tt (omega arith) (omega arith);
  tells = told rulings (λ age frame. Silent) [] (λ n frame age m ready. done rulings n frame m m.r0 m.r1);
}

pub none_added : (from : ℕ) (old : List Item) → AddsRecords [] from from old old
none_added from old = record { rules = []; appended = nothing old; part = no_records from; few = omega arith }
  where
    nothing : (xs : List Item) → xs ≡ xs ++ []
    nothing [] = refl
    nothing (x ∷ xs) = ap (λ (ys : List Item). x ∷ ys) (nothing xs)

one_added : (chosen : List Chosen) (one : Chosen) (from mid to : ℕ) (old x new : List Item) → 2 ≤ from → AddsRecords chosen from mid old x
    → Emits (λ age frame. said_of (advertised_again one age frame)) (weight one.advert) mid to x new → AddsRecords (chosen ++ one ∷ []) from to old new
one_added chosen one from mid to old x new low before more = record {
  rules = before.rules ++ more.fragment;
  appended = more.appended ∙ ap (λ (xs : List Item). xs ++ more.fragment) before.appended ∙ append_assoc old before.rules more.fragment;
  part = part-same _ _ from to _ _ _
      (λ age frame. sym (said-otherwise (first_of (map (λ one. advertised_again one age frame) chosen)) (advertised_again one age frame))
      ∙ ap said_of (sym (first_of-push (λ one. advertised_again one age frame) chosen one)))
      (omega (arith, sum_by_push (λ (one : Chosen). weight one.advert) chosen one))
      (part-then _ _ from mid to _ _ before.rules more.fragment low before.part more.part);
  few = omega (arith, before.few, more.few, length-append chosen (one ∷ []));
}

pub next_added : (chosen : List Chosen) (i : ℕ) (one d : Chosen) (from mid to : ℕ) (old x new : List Item) → i < length chosen → one ≡ get_or chosen i d → 2 ≤ from → AddsRecords (take i chosen) from mid old x
    → Emits (λ age frame. said_of (advertised_again one age frame)) (weight one.advert) mid to x new → AddsRecords (take (i + 1) chosen) from to old new
next_added chosen i one d from mid to old x new lt is low before more =
    let e : take (i + 1) chosen ≡ take i chosen ++ one ∷ [] = take_more chosen i d lt ∙ ap (λ (c : Chosen). take i chosen ++ c ∷ []) (sym is) in
    subst (λ (cs : List Chosen). AddsRecords cs from to old new) (sym e) (one_added (take i chosen) one from mid to old x new low before more)
