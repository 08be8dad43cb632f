-- The items for keepalives say what their question answers.
use Rattle.std.proofs.Common.{◌≡◌, ℕ, ◌+◌, ◌/◌, ◌<◌, ◌≤◌, false, cond, not, eqb, List, [], ◌∷◌, ◌++◌, get_or, Option, Some, None, refl, ap, ◌∙◌, arith, lit<, lit≤}
use Rattle.std.specs.Prelude.{bytes_eq, slice_index}
use Rattle.apf_coding.specs.declared.instruction.Op.TheVariants.{Ldh, Ldbx, Add, Div, Jne}
use Rattle.apf_coding.specs.declared.machine.Verdict.TheVariants.{Drop}
use Rattle.apf_coding.specs.Words.{word}
use Rattle.apf_coding.specs.Meaning.{State}
use Rattle.apf_asm.specs.declared.item.Item.{Item}
use Rattle.apf_asm.specs.declared.item.Item.TheVariants as items
use Rattle.apf_asm.specs.declared.item.Target.TheVariants as targets
use Rattle.apf_asm.specs.Refusals.{stands}
use Rattle.data_counters.specs.declared.counter.Counter.TheVariants.{DroppedIpv4KeepaliveAck}
use Rattle.data_counters.specs.Counters.{number_of}
use Rattle.frame_views.specs.Fields.{field, part}
use Rattle.frame_views.specs.Packets.{header_length}
use Rattle.policy_state.specs.declared.ruling.Ruling.{Ruling}
use Rattle.policy_state.specs.declared.ruling.Ruling.TheVariants.{Says, Silent}
use Rattle.policy_state.specs.declared.state.Keepalive.{Keepalive}
use Rattle.policy_state.specs.Asking.{reading, when}
use Rattle.policy_state.specs.Ip4.{ends_of, opening_of, keepalive_answer}
use Rattle.policy_state.proofs.AskingLaws.{reading-when}
use Rattle.policy_state.proofs.FieldsSeen.{number_seen, bytes_seen}
use Rattle.apf_asm.specs.Building.{fixed, count, jump, jump_if_r1, jump_unless, load, to_end}
use Rattle.policy_state.specs.Rulings.{said_of}
use Rattle.apf_asm.specs.Saying.{TellsSaid}
use Rattle.apf_asm.proofs.Rules.{Yields, above_two, done, restated, counts, places, adds, adds_r1, divides, recalls_0, recalls_1, reads_half_1, reads_byte_known_at, answers, labelled, leaves_if_r1, leaves_unless, told}
use Rattle.policy_state.proofs.Rulings.{rulings}
use Rattle.ip_rules.specs.Ip4Listing.{header_into, answer_items}
use Rattle.ip_rules.proofs.HeaderSeen.{header_small, header_slot, byte_small, bytes_behind, number_behind}

-- two fields are read in either order
reading-turned : {A B : Type 0} (o : Option A) (p : Option B) (k : A → B → Ruling) → reading o (λ v. reading p (λ w. k v w)) ≡ reading p (λ w. reading o (λ v. k v w))
reading-turned None None k = refl
reading-turned None (Some w) k = refl
reading-turned (Some v) None k = refl
reading-turned (Some v) (Some w) k = refl

module _ (n : ℕ) (frame : List ℕ) (m : State) (slot : get_or m.slots 13 0 ≡ header_length frame) (bytes : (k : ℕ) → slice_index frame k < 256) (sent : Keepalive) where
  abbrev dropped : Ruling
  dropped = Says Drop DroppedIpv4KeepaliveAck

  abbrev opening : Option (List ℕ)
  opening = part frame (14 + header_length frame) 12

  abbrev opening_ruling : Ruling
  opening_ruling = reading opening (λ there. when (bytes_eq there (opening_of sent)) dropped)

  abbrev dropped_items : List Item
  dropped_items = count (number_of DroppedIpv4KeepaliveAck) ∷ jump (to_end Drop) ∷ []

  abbrev opening_items : ℕ → List Item
  opening_items away = header_into 0 ∷ fixed Add 0 1 14 ∷ jump_unless (opening_of sent) (targets.Label away) ∷ dropped_items

  -- the items with the label behind them
  abbrev before_label : ℕ → List Item → List Item
  before_label away xs = xs ++ (items.Label away ∷ [])

  opening_yields : (away r0 r1 : ℕ) → 2 ≤ away → Yields rulings n frame m r0 r1 opening_ruling (before_label away (opening_items away))
  unfolding stands
  opening_yields away r0 r1 le =
      restated rulings n frame m r0 r1 _ _ _ (reading-when opening (λ there. bytes_eq there (opening_of sent)) dropped)
      (recalls_0 rulings n frame m 1 13 (header_length frame) r0 r1 _ _ refl slot
      (adds rulings n frame m 1 14 (header_length frame) r1 _ _
      (leaves_unless rulings n frame m _ r1 away (opening_of sent) dropped Silent dropped_items [] opening (bytes_behind frame 14 12 (lit≤ tt)) (lit< tt) refl
      (counts rulings n frame m _ r1 DroppedIpv4KeepaliveAck _ _
      (answers rulings n frame m _ Drop DroppedIpv4KeepaliveAck Silent _
      (labelled rulings n frame m _ _ away Silent [] le (done rulings n frame m _ _))))
      (λ q0 q1. done rulings n frame m q0 q1))))

  -- ---- the total length

  abbrev total : Option ℕ
  total = field frame 16 2

  abbrev size : Option ℕ
  size = field frame (26 + header_length frame) 1

  abbrev total_ruling : ℕ → Ruling
  total_ruling v = reading total (λ t. when (eqb (header_length frame + v / 4) t) opening_ruling)

  abbrev total_items : ℕ → List Item
  total_items away = fixed Ldh 1 1 16 ∷ jump_if_r1 Jne (targets.Label away) ∷ opening_items away

  total_yields : (away v r0 r1 : ℕ) → 2 ≤ away → r0 ≡ header_length frame + v / 4 → Yields rulings n frame m r0 r1 (total_ruling v) (before_label away (total_items away))
  unfolding stands
  total_yields away v r0 r1 le sum =
      restated rulings n frame m r0 r1 _ _ _
      (ap (λ (a : ℕ). reading total (λ t. cond (not (eqb a t)) Silent opening_ruling)) sum ∙ reading-when total (λ t. eqb (header_length frame + v / 4) t) opening_ruling)
      (reads_half_1 rulings n frame m r0 r1 1 16 _ _ total (number_seen frame 16 2) (λ t.
      leaves_if_r1 rulings n frame m Jne away r0 t opening_ruling Silent (opening_items away) [] refl refl
      (opening_yields away r0 t le)
      (λ q0 q1. done rulings n frame m q0 q1)))

  sum_is : (v : ℕ) → v < 256 → word (v / 4 + header_length frame) ≡ header_length frame + v / 4
  sum_is v lt = let small = header_small frame in omega arith

  abbrev size_items : ℕ → List Item
  size_items away = header_into 1 ∷ load Ldbx 26 ∷ fixed Div 0 1 4 ∷ fixed Add 1 0 0 ∷ total_items away

  size_yields : (away r0 r1 : ℕ) → 2 ≤ away → Yields rulings n frame m r0 r1 (reading size total_ruling) (before_label away (size_items away))
  unfolding stands
  size_yields away r0 r1 le =
      recalls_1 rulings n frame m 1 13 (header_length frame) r0 r1 _ _ refl slot
      (reads_byte_known_at rulings n frame m r0 (header_length frame) 1 26 total_ruling _ size (number_behind frame 26 1 (lit≤ tt)) (λ l lt. above_two l away false lt le refl) (λ v known.
      divides rulings n frame m 1 4 v _ _ _ refl
      (adds_r1 rulings n frame m (v / 4) (header_length frame) _ _
      (total_yields away v _ _ le (sum_is v (byte_small frame _ v bytes known))))))

  -- ---- one keepalive

  abbrev ends : Option (List ℕ)
  ends = part frame 26 8

  answer_same : reading ends (λ there. cond (not (bytes_eq there (ends_of sent))) Silent (reading size total_ruling)) ≡ keepalive_answer frame sent
  answer_same =
      ap (λ (a : Ruling). reading ends (λ there. cond (not (bytes_eq there (ends_of sent))) Silent a)) (reading-turned size total (λ v t. when (eqb (header_length frame + v / 4) t) opening_ruling))
      ∙ reading-when ends (λ there. bytes_eq there (ends_of sent)) _

  answer_yields : (away r0 r1 : ℕ) → 2 ≤ away → Yields rulings n frame m r0 r1 (keepalive_answer frame sent) (answer_items away sent)
  unfolding stands
  answer_yields away r0 r1 le =
      restated rulings n frame m r0 r1 _ _ _ answer_same
      (places rulings n frame m r0 r1 1 26 _ _ (lit< tt)
      (leaves_unless rulings n frame m 26 r1 away (ends_of sent) (reading size total_ruling) Silent (size_items away) [] ends (bytes_seen frame 26 8) (lit< tt) refl
      (size_yields away 26 r1 le)
      (λ q0 q1. done rulings n frame m q0 q1)))

pub answer_tells : (sent : Keepalive) (away : ℕ) → 2 ≤ away → TellsSaid (λ age frame. said_of (keepalive_answer frame sent)) (answer_items away sent)
answer_tells sent away le = told rulings (λ age frame. keepalive_answer frame sent) _ (λ n frame age m ready.
    answer_yields n frame m (header_slot n frame age m ready) ready.bytes sent away m.r0 m.r1 le)
