-- The items for all keepalives are a fragment that says what their question answers.
use Rattle.std.proofs.Common.{◌≡◌, ℕ, ◌+◌, ◌*◌, ◌≤◌, Bool, true, false, cond, eqb, List, [], ◌∷◌, ◌++◌, map, Option, Some, None, refl, sym, ap, subst, append-nil, ◌∙◌, arith, lit<}
use Rattle.std.specs.Prelude.{count_by, is_some}
use Rattle.std.specs.List.{list_any}
use Rattle.std.proofs.lemmas.List.Sums.{sum_by-cons}
use Rattle.apf_coding.specs.declared.instruction.Op.TheVariants.{Ldb, Jne}
use Rattle.apf_asm.specs.declared.item.Item.{Item}
use Rattle.policy_state.specs.declared.basis.Basis.{Basis}
use Rattle.policy_state.specs.declared.ruling.Ruling.{Ruling}
use Rattle.policy_state.specs.declared.ruling.Ruling.TheVariants.{Silent}
use Rattle.policy_state.specs.declared.state.Keepalive.{Keepalive}
use Rattle.policy_state.specs.Asking.{reading, when, first_of}
use Rattle.policy_state.specs.Ip4.{protocol, keepalive_answer, slot_answer, keepalive_answers}
use Rattle.policy_state.proofs.AskingLaws.{reading-over}
use Rattle.policy_state.proofs.FieldsSeen.{number_seen}
use Rattle.apf_asm.specs.Fragment.{Emits, IsPart, labels}
use Rattle.policy_state.specs.Rulings.{said_of}
use Rattle.apf_coding.specs.Said.{Said}
use Rattle.apf_asm.specs.Saying.{TellsSaid}
use Rattle.apf_asm.proofs.Forms.{sound-nil}
use Rattle.apf_asm.proofs.Parts.{fragment-of, fresh-above, part-then, part-same, part-yields}
use Rattle.apf_asm.proofs.Rules.{done, restated, reads_byte, skips_if, told}
use Rattle.policy_state.proofs.Rulings.{rulings, said-otherwise}
use Rattle.ip_rules.specs.Ip4Listing.{answer_items, slots_items, segment_items, keepalive_items, label_behind}
use Rattle.ip_rules.proofs.KeepaliveForm.{answer_fragment}
use Rattle.ip_rules.proofs.KeepaliveRuling.{answer_tells}
use Rattle.ip_rules.proofs.Over.{over_fragment}
use Rattle.policy_state.specs.Weights.{keepalive_weight}

-- no items
nothing : (next most : ℕ) → IsPart (λ age frame. said_of Silent) next next most []
unfolding labels
nothing next most = record {
  form = fragment-of next next most [] sound-nil (omega arith) tt (omega arith) (omega arith);
  tells = told rulings (λ age frame. Silent) [] (λ n frame age m ready. done rulings n frame m m.r0 m.r1);
}

moved : (q : ℕ → List ℕ → Said) (from to up most : ℕ) (xs : List Item) → to ≡ up → IsPart q from to most xs → IsPart q from up most xs
moved q from to up most xs e x = subst (λ (t : ℕ). IsPart q from t most xs) e x

-- ---- slot by slot

abbrev slots_ruling : List (Option Keepalive) → List ℕ → Ruling
slots_ruling slots frame = first_of (map (slot_answer frame) slots)

slots_part : (next : ℕ) (slots : List (Option Keepalive)) → 2 ≤ next
    → IsPart (λ age frame. said_of (slots_ruling slots frame)) next (next + count_by is_some slots) (65 * count_by is_some slots) (slots_items next slots)
slots_part next [] le = moved _ next next (next + 0) 0 [] (omega arith) (nothing next 0)
slots_part next (None ∷ slots) le = slots_part next slots le
slots_part next (Some sent ∷ slots) le =
    let k = count_by is_some slots in
    let one : count_by is_some (Some sent ∷ slots) ≡ 1 + k = sum_by-cons (λ x. cond (is_some x) 1 0) (Some sent) slots in
    let first : IsPart (λ age frame. said_of (keepalive_answer frame sent)) next (next + 1) 65 (answer_items next sent) = record { form = answer_fragment next sent; tells = answer_tells sent next le } in
    let both = part-then (λ age frame. said_of (keepalive_answer frame sent)) (λ age frame. said_of (slots_ruling slots frame)) next (next + 1) (next + 1 + k) 65 (65 * k) (answer_items next sent) (slots_items (next + 1) slots) le first (slots_part (next + 1) slots (omega arith)) in
    moved _ next (next + 1 + k) (next + count_by is_some (Some sent ∷ slots)) (65 * count_by is_some (Some sent ∷ slots)) _ (omega (arith, one))
    (part-same _ (λ age frame. said_of (slots_ruling (Some sent ∷ slots) frame)) next (next + 1 + k) _ (65 * count_by is_some (Some sent ∷ slots)) _ (λ age frame. sym (said-otherwise (keepalive_answer frame sent) (slots_ruling slots frame))) (omega (arith, one)) both)

-- ---- for TCP alone

segment_tells : (slots : List (Option Keepalive)) (next to most : ℕ) (answers : List Item) → 2 ≤ next → IsPart (λ age frame. said_of (slots_ruling slots frame)) next to most answers
    → TellsSaid (λ age frame. said_of (reading (protocol frame) (λ p. when (eqb p 6) (slots_ruling slots frame)))) (segment_items to answers)
segment_tells slots next to most answers le x =
    let up : next ≤ to = x.form.rises in
    told rulings (λ age frame. reading (protocol frame) (λ p. when (eqb p 6) (slots_ruling slots frame))) _ (λ n frame age m ready.
    restated rulings n frame m m.r0 m.r1 _ _ _ (reading-over (protocol frame) (λ p. eqb p 6) (slots_ruling slots frame))
    (reads_byte rulings n frame m m.r0 m.r1 1 23 _ _ (protocol frame) (number_seen frame 23 1) (λ p.
    skips_if rulings n frame m Jne 6 to p m.r1 (slots_ruling slots frame) Silent answers [] refl (omega arith) (fresh-above next to to answers x.form.fresh (omega arith))
    (part-yields rulings (λ age frame. slots_ruling slots frame) next to most answers le x n frame age m ready p m.r1)
    (λ q0 q1. done rulings n frame m q0 q1))))

-- where there is a keepalive
some_part : (next : ℕ) (slots : List (Option Keepalive)) → 2 ≤ next → 1 ≤ count_by is_some slots
    → IsPart (λ age frame. said_of (reading (protocol frame) (λ p. when (eqb p 6) (slots_ruling slots frame)))) next (next + count_by is_some slots + 1) (keepalive_weight * count_by is_some slots) (segment_items (next + count_by is_some slots) (slots_items next slots))
some_part next slots le some =
    let k = count_by is_some slots in
    let x = slots_part next slots le in
    let whole : IsPart (λ age frame. said_of (reading (protocol frame) (λ p. when (eqb p 6) (slots_ruling slots frame)))) next (next + k + 1) (11 + 65 * k) (segment_items (next + k) (slots_items next slots)) = record {
      form = over_fragment Ldb 23 6 next (next + k) (65 * k) (slots_items next slots) refl refl (lit< tt) (lit< tt) x.form;
      tells = segment_tells slots next (next + k) (65 * k) (slots_items next slots) le x;
    } in
    part-same _ _ next (next + k + 1) (11 + 65 * k) (keepalive_weight * k) _ (λ age frame. refl) (omega arith) whole

some_counted : (slots : List (Option Keepalive)) → list_any is_some slots ≡ true → 1 ≤ count_by is_some slots
some_counted [] e = absurd cc
some_counted (None ∷ slots) e = some_counted slots e
some_counted (Some sent ∷ slots) e = omega (arith, sum_by-cons (λ x. cond (is_some x) 1 0) (Some sent) slots)

-- what is asked of TCP
abbrev tcp_ruling : List (Option Keepalive) → List ℕ → Ruling
tcp_ruling slots frame = reading (protocol frame) (λ p. when (eqb p 6) (slots_ruling slots frame))

pub none_emitted : (basis : Basis) (next : ℕ) (old : List Item) → list_any is_some basis.state.keepalives ≡ false
    → Emits (λ age frame. said_of (keepalive_answers basis frame)) (keepalive_weight * count_by is_some basis.state.keepalives) next next old old
none_emitted basis next old e = record {
  fragment = [];
  appended = sym (append-nil old);
  part = part-same _ _ next next 0 (keepalive_weight * count_by is_some basis.state.keepalives) [] (λ age frame. ap (λ (b : Bool). said_of (when b (tcp_ruling basis.state.keepalives frame))) (sym e)) (omega arith) (nothing next 0);
  few = omega arith;
}

pub some_emitted : (basis : Basis) (next to : ℕ) (old new : List Item) → list_any is_some basis.state.keepalives ≡ true → 2 ≤ next → to ≡ next + count_by is_some basis.state.keepalives → to ≤ next + 8
    → new ≡ old ++ segment_items to (slots_items next basis.state.keepalives)
    → Emits (λ age frame. said_of (keepalive_answers basis frame)) (keepalive_weight * count_by is_some basis.state.keepalives) next (to + 1) old new
some_emitted basis next to old new some le e few made =
    let slots = basis.state.keepalives in
    record {
      fragment = segment_items to (slots_items next slots);
      appended = made;
      part = subst (λ (t : ℕ). IsPart (λ age frame. said_of (keepalive_answers basis frame)) next (t + 1) (keepalive_weight * count_by is_some slots) (segment_items t (slots_items next slots))) (sym e)
          (part-same _ _ next (next + count_by is_some slots + 1) _ (keepalive_weight * count_by is_some slots) _ (λ age frame. ap (λ (b : Bool). said_of (when b (tcp_ruling slots frame))) (sym some)) (omega arith)
          (some_part next slots le (some_counted slots some)));
      few = omega arith;
    }

-- by whether there is a keepalive
by_some : (some : Bool) (basis : Basis) (next : ℕ) (old new : List Item) → list_any is_some basis.state.keepalives ≡ some → 2 ≤ next → cond some (next + count_by is_some basis.state.keepalives + 1) next ≤ next + 9
    → new ≡ old ++ cond some (segment_items (next + count_by is_some basis.state.keepalives) (slots_items next basis.state.keepalives)) []
    → Emits (λ age frame. said_of (keepalive_answers basis frame)) (keepalive_weight * count_by is_some basis.state.keepalives) next (cond some (next + count_by is_some basis.state.keepalives + 1) next) old new
by_some true basis next old new e le few made = some_emitted basis next (next + count_by is_some basis.state.keepalives) old new e le refl (omega (arith, few)) made
by_some false basis next old new e le few made =
    subst (λ (xs : List Item). Emits (λ age frame. said_of (keepalive_answers basis frame)) (keepalive_weight * count_by is_some basis.state.keepalives) next next old xs) (sym (made ∙ append-nil old)) (none_emitted basis next old e)

pub keepalives_emitted : (basis : Basis) (next to : ℕ) (old new : List Item) → to ≡ label_behind next basis.state.keepalives → 2 ≤ next → to ≤ next + 9 → new ≡ old ++ keepalive_items next basis.state.keepalives
    → Emits (λ age frame. said_of (keepalive_answers basis frame)) (keepalive_weight * count_by is_some basis.state.keepalives) next to old new
keepalives_emitted basis next to old new behind le few made =
    subst (λ (t : ℕ). Emits (λ age frame. said_of (keepalive_answers basis frame)) (keepalive_weight * count_by is_some basis.state.keepalives) next t old new) (sym behind)
    (by_some (list_any is_some basis.state.keepalives) basis next old new refl le (omega (arith, few, behind)) made)
