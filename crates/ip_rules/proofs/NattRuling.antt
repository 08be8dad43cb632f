-- The items for NAT keepalives say what their line answers.
use Rattle.std.proofs.Common.{◌≡◌, ℕ, ◌+◌, ◌≤◌, eqb, List, [], ◌∷◌, ◌++◌, get_or, refl, lit≤}
use Rattle.std.specs.Prelude.{bit_and}
use Rattle.apf_coding.specs.declared.instruction.Op.TheVariants.{Ldh, Ldbx, Ldhx, Jne, Jset}
use Rattle.apf_coding.specs.declared.machine.Verdict.TheVariants.{Drop}
use Rattle.apf_coding.specs.Meaning.{State}
use Rattle.apf_asm.specs.declared.item.Item.{Item}
use Rattle.apf_asm.specs.declared.item.Item.TheVariants as items
use Rattle.apf_asm.specs.declared.item.Target.TheVariants as targets
use Rattle.apf_asm.specs.Refusals.{stands}
use Rattle.apf_asm.specs.Building.{count, jump, jump_if, load, to_end}
use Rattle.apf_asm.proofs.Rules.{Yields, done, restated, counts, recalls_1, reads_byte, reads_byte_at, reads_half, reads_half_at, answers, labelled, leaves_if}
use Rattle.data_counters.specs.declared.counter.Counter.TheVariants.{DroppedIpv4NattKeepalive}
use Rattle.data_counters.specs.Counters.{number_of}
use Rattle.frame_views.specs.Fields.{field}
use Rattle.frame_views.specs.Packets.{header_length}
use Rattle.policy_state.specs.declared.ruling.Ruling.{Ruling}
use Rattle.policy_state.specs.declared.ruling.Ruling.TheVariants.{Says, Silent}
use Rattle.policy_state.specs.Asking.{reading, when}
use Rattle.policy_state.specs.Ip4.{protocol, fragment, natt_keepalives}
use Rattle.policy_state.proofs.AskingLaws.{reading-when}
use Rattle.policy_state.proofs.FieldsSeen.{number_seen}
use Rattle.policy_state.proofs.Rulings.{rulings}
use Rattle.ip_rules.specs.Ip4Listing.{header_into, natt_items}
use Rattle.ip_rules.proofs.HeaderSeen.{number_behind}

-- items with their label behind them
abbrev pub before_label : ℕ → List Item → List Item
before_label away xs = xs ++ (items.Label away ∷ [])

-- ---- what is read, one field behind another

abbrev dropped : Ruling
dropped = Says Drop DroppedIpv4NattKeepalive

abbrev first_ruling : List ℕ → Ruling
first_ruling frame = reading (field frame (22 + header_length frame) 1) (λ first. when (eqb first 0xff) dropped)

abbrev bytes_ruling : List ℕ → Ruling
bytes_ruling frame = reading (field frame (18 + header_length frame) 2) (λ bytes. when (eqb bytes 9) (first_ruling frame))

abbrev port_ruling : List ℕ → Ruling
port_ruling frame = reading (field frame (14 + header_length frame) 2) (λ port. when (eqb port 4500) (bytes_ruling frame))

abbrev whole_ruling : List ℕ → Ruling
whole_ruling frame = reading (fragment frame) (λ f. when (eqb (bit_and f 0x1fff) 0) (port_ruling frame))

-- ---- the items come to it

module _ (n : ℕ) (frame : List ℕ) (m : State) (slot : get_or m.slots 13 0 ≡ header_length frame) (away : ℕ) (le : 2 ≤ away) where
  abbrev dropped_items : List Item
  dropped_items = count (number_of DroppedIpv4NattKeepalive) ∷ jump (to_end Drop) ∷ []

  abbrev first_items : List Item
  first_items = load Ldbx 22 ∷ jump_if Jne 0xff (targets.Label away) ∷ dropped_items

  -- R1 is the header's length from here on
  first_yields : (r0 : ℕ) → Yields rulings n frame m r0 (header_length frame) (first_ruling frame) (before_label away first_items)
  unfolding stands
  first_yields r0 =
      restated rulings n frame m r0 _ _ _ _ (reading-when (field frame (22 + header_length frame) 1) (λ first. eqb first 0xff) dropped)
      (reads_byte_at rulings n frame m r0 (header_length frame) 1 22 _ _ (field frame (22 + header_length frame) 1) (number_behind frame 22 1 (lit≤ tt)) (λ first.
      leaves_if rulings n frame m Jne 0xff away first (header_length frame) dropped Silent dropped_items [] refl refl
      (counts rulings n frame m first _ DroppedIpv4NattKeepalive _ _
      (answers rulings n frame m first Drop DroppedIpv4NattKeepalive Silent _
      (labelled rulings n frame m first _ away Silent [] le (done rulings n frame m first _))))
      (λ q0 q1. done rulings n frame m q0 q1)))

  abbrev bytes_items : List Item
  bytes_items = load Ldhx 18 ∷ jump_if Jne 9 (targets.Label away) ∷ first_items

  bytes_yields : (r0 : ℕ) → Yields rulings n frame m r0 (header_length frame) (bytes_ruling frame) (before_label away bytes_items)
  unfolding stands
  bytes_yields r0 =
      restated rulings n frame m r0 _ _ _ _ (reading-when (field frame (18 + header_length frame) 2) (λ bytes. eqb bytes 9) (first_ruling frame))
      (reads_half_at rulings n frame m r0 (header_length frame) 1 18 _ _ (field frame (18 + header_length frame) 2) (number_behind frame 18 2 (lit≤ tt)) (λ bytes.
      leaves_if rulings n frame m Jne 9 away bytes (header_length frame) (first_ruling frame) Silent first_items [] refl refl
      (first_yields bytes)
      (λ q0 q1. done rulings n frame m q0 q1)))

  abbrev port_items : List Item
  port_items = header_into 1 ∷ load Ldhx 14 ∷ jump_if Jne 4500 (targets.Label away) ∷ bytes_items

  port_yields : (r0 r1 : ℕ) → Yields rulings n frame m r0 r1 (port_ruling frame) (before_label away port_items)
  unfolding stands
  port_yields r0 r1 =
      restated rulings n frame m r0 r1 _ _ _ (reading-when (field frame (14 + header_length frame) 2) (λ port. eqb port 4500) (bytes_ruling frame))
      (recalls_1 rulings n frame m 1 13 (header_length frame) r0 r1 _ _ refl slot
      (reads_half_at rulings n frame m r0 (header_length frame) 1 14 _ _ (field frame (14 + header_length frame) 2) (number_behind frame 14 2 (lit≤ tt)) (λ port.
      leaves_if rulings n frame m Jne 4500 away port (header_length frame) (bytes_ruling frame) Silent bytes_items [] refl refl
      (bytes_yields port)
      (λ q0 q1. done rulings n frame m q0 q1))))

  abbrev whole_items : List Item
  whole_items = load Ldh 20 ∷ jump_if Jset 0x1fff (targets.Label away) ∷ port_items

  whole_yields : (r0 r1 : ℕ) → Yields rulings n frame m r0 r1 (whole_ruling frame) (before_label away whole_items)
  unfolding stands
  whole_yields r0 r1 =
      restated rulings n frame m r0 r1 _ _ _ (reading-when (fragment frame) (λ f. eqb (bit_and f 0x1fff) 0) (port_ruling frame))
      (reads_half rulings n frame m r0 r1 1 20 _ _ (fragment frame) (number_seen frame 20 2) (λ f.
      leaves_if rulings n frame m Jset 0x1fff away f r1 (port_ruling frame) Silent port_items [] refl refl
      (port_yields f r1)
      (λ q0 q1. done rulings n frame m q0 q1)))

  pub natt_yields : (r0 r1 : ℕ) → Yields rulings n frame m r0 r1 (natt_keepalives frame) (natt_items away)
  unfolding stands
  natt_yields r0 r1 =
      restated rulings n frame m r0 r1 _ _ _ (reading-when (protocol frame) (λ p. eqb p 17) (whole_ruling frame))
      (reads_byte rulings n frame m r0 r1 1 23 _ _ (protocol frame) (number_seen frame 23 1) (λ p.
      leaves_if rulings n frame m Jne 17 away p r1 (whole_ruling frame) Silent whole_items [] refl refl
      (whole_yields p r1)
      (λ q0 q1. done rulings n frame m q0 q1)))
