-- The link items say what the questions on the Ethernet header answer.
use Rattle.std.proofs.Common.{◌≡◌, ℕ, Bool, true, false, cond, eqb, ltb, List, [], ◌∷◌, ◌++◌, Option, Some, None, refl, sym, ap, ◌∙◌}
use Rattle.std.specs.Prelude.{◌||◌}
use Rattle.apf_coding.specs.Meaning.{State}
use Rattle.apf_coding.specs.declared.instruction.Op.TheVariants.{Jeq, Jlt}
use Rattle.apf_coding.specs.declared.machine.Verdict.TheVariants.{Drop}
use Rattle.data_counters.specs.declared.counter.Counter.TheVariants.{Dropped8023Frame, DroppedEthertypeDenied}
use Rattle.data_counters.specs.Counters.{number_of}
use Rattle.policy_state.specs.declared.basis.Basis.{Basis}
use Rattle.policy_state.specs.declared.ruling.Ruling.{Ruling}
use Rattle.policy_state.specs.declared.ruling.Ruling.TheVariants.{Missing, Says, Silent}
use Rattle.policy_state.specs.Asking.{reading, when, otherwise}
use Rattle.policy_state.specs.Ethernet.{ethertype}
use Rattle.policy_state.specs.Policy.{is_denied, link}
use Rattle.policy_state.proofs.AskingLaws.{otherwise-silent, otherwise-when}
use Rattle.policy_state.proofs.FieldsSeen.{number_seen}
use Rattle.apf_asm.specs.Saying.{counted, TellsSaid}
use Rattle.apf_asm.proofs.Rules.{Yields, done, restated, counts, reads_half, answers_if, told}
use Rattle.arp_rules.specs.Listing.{length_items, deny_items, denied_items, link_items}
use Rattle.policy_state.specs.Rulings.{said_of}
use Rattle.policy_state.proofs.Rulings.{rulings}

abbrev too_short : Ruling
too_short = Says Drop Dropped8023Frame

abbrev denied : List ℕ → ℕ → Ruling
denied deny e = when (is_denied deny e) (Says Drop DroppedEthertypeDenied)

-- ---- the rulings as the items come to them are those of the table

one_denied : (b c : Bool) (a : Ruling) → cond b a (when c a) ≡ when (b || c) a
one_denied true c a = refl
one_denied false c a = refl

link_same : (on : Bool) (deny : List ℕ) (o : Option ℕ)
    → reading o (λ e. cond (on) (cond (ltb e 0x600) too_short (denied deny e)) (denied deny e)) ≡ otherwise (when on (reading o (λ e. when (ltb e 0x600) too_short))) (otherwise (reading o (denied deny)) Silent)
link_same on deny None = go on
  where
    go : (b : Bool) → Missing ≡ otherwise (when b Missing) (otherwise Missing Silent)
    go true = refl
    go false = refl
link_same true deny (Some e) = sym (otherwise-when (ltb e 0x600) Drop Dropped8023Frame (otherwise (denied deny e) Silent) ∙ ap (λ (a : Ruling). cond (ltb e 0x600) too_short a) (otherwise-silent (denied deny e)))
link_same false deny (Some e) = sym (otherwise-silent (denied deny e))

-- ---- the items come to them

module _ (n : ℕ) (frame : List ℕ) (m : State) where
  each_denied : (deny : List ℕ) (e : ℕ) → Yields rulings n frame m e (counted (number_of DroppedEthertypeDenied)) (denied deny e) (deny_items deny)
  each_denied [] e = done rulings n frame m e _
  each_denied (d ∷ deny) e = restated rulings n frame m e _ _ _ _ (one_denied (eqb e d) (is_denied deny e) (Says Drop DroppedEthertypeDenied))
      (answers_if rulings n frame m Jeq d e Drop DroppedEthertypeDenied _ _ refl (each_denied deny e))

  all_denied : (deny : List ℕ) (e r1 : ℕ) → Yields rulings n frame m e r1 (denied deny e) (denied_items deny)
  all_denied deny e r1 = counts rulings n frame m e r1 DroppedEthertypeDenied _ _ (each_denied deny e)

  with_lengths : (on : Bool) (deny : List ℕ) (e r1 : ℕ) → Yields rulings n frame m e r1 (cond on (cond (ltb e 0x600) too_short (denied deny e)) (denied deny e)) (length_items on ++ denied_items deny)
  with_lengths true deny e r1 =
      counts rulings n frame m e r1 Dropped8023Frame _ _
      (answers_if rulings n frame m Jlt 0x600 e Drop Dropped8023Frame _ _ refl
      (all_denied deny e _))
  with_lengths false deny e r1 = all_denied deny e r1

pub link_tells : (basis : Basis) → TellsSaid (λ age frame. said_of (link basis frame)) (link_items basis)
link_tells basis = told rulings (λ age frame. link basis frame) _ (λ n frame age m ready.
    restated rulings n frame m m.r0 m.r1 _ _ _ (link_same basis.config.drop_802_3 basis.config.deny (ethertype frame))
    (reads_half rulings n frame m m.r0 m.r1 1 12 _ _ (ethertype frame) (number_seen frame 12 2) (λ e.
    with_lengths n frame m basis.config.drop_802_3 basis.config.deny e m.r1)))
