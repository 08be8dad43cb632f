-- The IPv6 items say what the question on IPv6 answers by the headers alone.
use Rattle.std.proofs.Common.{◌≡◌, ℕ, ◌+◌, ◌≤◌, Bool, true, false, cond, not, eqb, List, [], ◌∷◌, ◌++◌, Option, Some, None, refl, sym, ap, ◌∙◌, arith, lit<}
use Rattle.std.specs.Prelude.{◌||◌, bytes_eq}
use Rattle.std.proofs.lemmas.Bool.Decides.{nat_tests}
use Rattle.apf_coding.specs.Meaning.{State}
use Rattle.apf_coding.specs.declared.instruction.Op.TheVariants.{Ldb, Jeq, Jne}
use Rattle.apf_coding.specs.declared.machine.Verdict.TheVariants.{Pass, Drop}
use Rattle.apf_asm.specs.declared.item.Item.TheVariants as items
use Rattle.apf_asm.specs.declared.item.Target.TheVariants as targets
use Rattle.apf_asm.specs.Refusals.{stands}
use Rattle.data_counters.specs.declared.counter.Counter.TheVariants.{PassedIpv6NonIcmp, PassedIpv6UnicastNonIcmp, DroppedIpv6RouterSolicitation, DroppedIpv6MulticastNa, DroppedIpv6Multicast}
use Rattle.frame_views.specs.Fields.{field, part}
use Rattle.policy_state.specs.declared.basis.Basis.{Basis}
use Rattle.policy_state.specs.declared.ruling.Ruling.{Ruling}
use Rattle.policy_state.specs.declared.ruling.Ruling.TheVariants.{Says, Silent}
use Rattle.policy_state.specs.Asking.{reading, when, otherwise}
use Rattle.policy_state.specs.Ip6.{next_header, icmp_type, by_destination, link_groups, ip6_header_lines}
use Rattle.policy_state.proofs.AskingLaws.{otherwise-silent, otherwise-when, reading-when}
use Rattle.policy_state.proofs.FieldsSeen.{number_seen, bytes_seen}
use Rattle.apf_asm.specs.Building.{to_end, load, jump_if, jump}
use Rattle.apf_asm.specs.Saying.{TellsSaid}
use Rattle.policy_state.specs.Rulings.{said_of}
use Rattle.apf_asm.proofs.Rules.{Yields, done, restated, counts, places, reads_byte, answers, answers_if, leaves_if, leaves_unless, skips_if, then_on, labelled, told}
use Rattle.policy_state.proofs.Rulings.{rulings}
use Rattle.ip_rules.specs.Ip6Listing.{destination_items, advertisement_items, message_items, unfiltered_items, filtered_items, dozing_items, items_by, ip6_items}

-- ---- the rulings as the items come to them

abbrev solicitation : Ruling
solicitation = Says Drop DroppedIpv6RouterSolicitation

abbrev advertisement : Ruling
advertisement = Says Drop DroppedIpv6MulticastNa

abbrev other_packet : Ruling
other_packet = Says Pass PassedIpv6NonIcmp

abbrev advertised_to : Option (List ℕ) → Ruling
advertised_to there = reading there (λ d. cond (not (bytes_eq d link_groups)) Silent advertisement)

-- a message of this type, to an address
abbrev message_of : Option ℕ → Option (List ℕ) → Ruling
message_of kind there = reading kind (λ k. cond (eqb k 133) solicitation (cond (not (eqb k 136)) Silent (advertised_to there)))

abbrev unfiltered_of : Option ℕ → Ruling → Ruling
unfiltered_of next message = reading next (λ n. cond (not (eqb n 58)) other_packet message)

abbrev filtered_of : Option ℕ → Ruling → Ruling → Ruling
filtered_of next destination message = reading next (λ n. cond (eqb n 58) message (otherwise destination message))

abbrev dozing_of : Option ℕ → Option ℕ → Ruling → Ruling → Ruling
dozing_of next kind destination message = reading next (λ n. cond (not (eqb n 58)) (otherwise destination message)
    (reading kind (λ k. cond (not (eqb k 128)) message (otherwise destination message))))

abbrev ruling_by : Bool → Bool → List ℕ → Ruling
ruling_by false doze frame = unfiltered_of (next_header frame) (message_of (icmp_type frame) (part frame 38 15))
ruling_by true false frame = filtered_of (next_header frame) (by_destination frame) (message_of (icmp_type frame) (part frame 38 15))
ruling_by true true frame = dozing_of (next_header frame) (icmp_type frame) (by_destination frame) (message_of (icmp_type frame) (part frame 38 15))

-- ---- are those of the table

one_message : (a b : Bool) (there : Option (List ℕ)) → cond a solicitation (cond (not b) Silent (advertised_to there))
    ≡ otherwise (when a solicitation) (when b (reading there (λ d. when (bytes_eq d link_groups) advertisement)))
one_message true b there = refl
one_message false true there = reading-when there (λ d. bytes_eq d link_groups) advertisement
one_message false false there = refl

message_same : (kind : Option ℕ) (there : Option (List ℕ)) → message_of kind there
    ≡ otherwise (reading kind (λ k. when (eqb k 133) solicitation)) (otherwise (reading kind (λ k. when (eqb k 136) (reading there (λ d. when (bytes_eq d link_groups) advertisement)))) Silent)
message_same None there = refl
message_same (Some k) there = one_message (eqb k 133) (eqb k 136) there
    ∙ ap (λ (a : Ruling). otherwise (when (eqb k 133) solicitation) a) (sym (otherwise-silent (when (eqb k 136) (reading there (λ d. when (bytes_eq d link_groups) advertisement)))))

-- the destination always answers
settled : (b : Bool) (later : Ruling) → otherwise (cond b (Says Drop DroppedIpv6Multicast) (Says Pass PassedIpv6UnicastNonIcmp)) later ≡ cond b (Says Drop DroppedIpv6Multicast) (Says Pass PassedIpv6UnicastNonIcmp)
settled true later = refl
settled false later = refl

abbrev destination_of : Option ℕ → Ruling
destination_of first = reading first (λ b. cond (eqb b 0xff) (Says Drop DroppedIpv6Multicast) (Says Pass PassedIpv6UnicastNonIcmp))

destination-answers : (first : Option ℕ) (later : Ruling) → otherwise (destination_of first) later ≡ destination_of first
destination-answers None later = refl
destination-answers (Some b) later = settled (eqb b 0xff) later

unfiltered_same : (next : Option ℕ) (message : Ruling) → unfiltered_of next message ≡ otherwise (reading next (λ n. when (not (eqb n 58)) other_packet)) message
unfiltered_same None message = refl
unfiltered_same (Some n) message = sym (otherwise-when (not (eqb n 58)) Pass PassedIpv6NonIcmp message)

one_filtered : (b : Bool) (first : Option ℕ) (message : Ruling) → cond b message (otherwise (destination_of first) message)
    ≡ otherwise (cond b Silent (destination_of first)) (otherwise (when (not b) other_packet) message)
one_filtered true first message = refl
one_filtered false first message = destination-answers first message ∙ sym (destination-answers first (otherwise other_packet message))

filtered_same : (next first : Option ℕ) (message : Ruling) → filtered_of next (destination_of first) message
    ≡ otherwise (reading next (λ n. cond (eqb n 58) Silent (destination_of first))) (otherwise (reading next (λ n. when (not (eqb n 58)) other_packet)) message)
filtered_same None first message = refl
filtered_same (Some n) first message = one_filtered (eqb n 58) first message

one_kind : (b : Bool) (destination message : Ruling) → cond (not b) message (otherwise destination message) ≡ otherwise (when b destination) message
one_kind true destination message = refl
one_kind false destination message = refl

echo_same : (kind : Option ℕ) (destination message : Ruling) → reading kind (λ k. cond (not (eqb k 128)) message (otherwise destination message))
    ≡ otherwise (reading kind (λ k. when (eqb k 128) destination)) message
echo_same None destination message = refl
echo_same (Some k) destination message = one_kind (eqb k 128) destination message

one_dozing : (b : Bool) (kind first : Option ℕ) (message : Ruling)
    → cond (not b) (otherwise (destination_of first) message) (reading kind (λ k. cond (not (eqb k 128)) message (otherwise (destination_of first) message)))
    ≡ otherwise (cond b (reading kind (λ k. when (eqb k 128) (destination_of first))) (destination_of first)) (otherwise (when (not b) other_packet) message)
one_dozing true kind first message = echo_same kind (destination_of first) message
one_dozing false kind first message = destination-answers first message ∙ sym (destination-answers first (otherwise other_packet message))

dozing_same : (next kind first : Option ℕ) (message : Ruling) → dozing_of next kind (destination_of first) message
    ≡ otherwise (reading next (λ n. cond (eqb n 58) (reading kind (λ k. when (eqb k 128) (destination_of first))) (destination_of first))) (otherwise (reading next (λ n. when (not (eqb n 58)) other_packet)) message)
dozing_same None kind first message = refl
dozing_same (Some n) kind first message = one_dozing (eqb n 58) kind first message

-- the lines, by what they read
abbrev lines_by : Bool → Bool → Option ℕ → Option ℕ → Option ℕ → Ruling → Ruling
lines_by multicast doze next kind first message =
    otherwise (when multicast (reading next (λ n. cond (eqb n 58) (when doze (reading kind (λ k. when (eqb k 128) (destination_of first)))) (destination_of first))))
    (otherwise (reading next (λ n. when (not (eqb n 58)) other_packet)) message)

by_same : (multicast doze : Bool) (frame : List ℕ)
    → ruling_by multicast doze frame ≡ lines_by multicast doze (next_header frame) (icmp_type frame) (field frame 38 1) (message_of (icmp_type frame) (part frame 38 15))
by_same false doze frame = unfiltered_same (next_header frame) (message_of (icmp_type frame) (part frame 38 15))
by_same true false frame = filtered_same (next_header frame) (field frame 38 1) (message_of (icmp_type frame) (part frame 38 15))
by_same true true frame = dozing_same (next_header frame) (icmp_type frame) (field frame 38 1) (message_of (icmp_type frame) (part frame 38 15))

lines_same : (basis : Basis) (frame : List ℕ) → ruling_by basis.state.multicast basis.state.doze frame ≡ ip6_header_lines basis frame
lines_same basis frame =
    by_same basis.state.multicast basis.state.doze frame
    ∙ ap (λ (message : Ruling). lines_by basis.state.multicast basis.state.doze (next_header frame) (icmp_type frame) (field frame 38 1) message) (message_same (icmp_type frame) (part frame 38 15))

-- ---- the items come to them

two_above : (l : ℕ) → eqb (l + 2) (l + 1) ≡ false
two_above l = grind (arith, nat_tests)

or_false : (b : Bool) → b ≡ false → (b || false) ≡ false
or_false b e = ap (λ (c : Bool). c || false) e

module _ (n : ℕ) (frame : List ℕ) (m : State) where
  destination_yields : (r0 r1 : ℕ) → Yields rulings n frame m r0 r1 (by_destination frame) destination_items
  destination_yields r0 r1 =
      counts rulings n frame m r0 r1 DroppedIpv6Multicast _ _
      (reads_byte rulings n frame m r0 _ 1 38 _ _ (field frame 38 1) (number_seen frame 38 1) (λ b.
      answers_if rulings n frame m Jeq 0xff b Drop DroppedIpv6Multicast _ _ refl
      (counts rulings n frame m b _ PassedIpv6UnicastNonIcmp _ _
      (answers rulings n frame m b Pass PassedIpv6UnicastNonIcmp _ _ (done rulings n frame m b _)))))

  message_yields : (over r0 r1 : ℕ) → 2 ≤ over → Yields rulings n frame m r0 r1 (message_of (icmp_type frame) (part frame 38 15)) (message_items over)
  unfolding stands
  message_yields over r0 r1 le =
      reads_byte rulings n frame m r0 r1 1 54 _ _ (icmp_type frame) (number_seen frame 54 1) (λ k.
      counts rulings n frame m k r1 DroppedIpv6RouterSolicitation _ _
      (answers_if rulings n frame m Jeq 133 k Drop DroppedIpv6RouterSolicitation _ _ refl
      (leaves_if rulings n frame m Jne 136 over k _ (advertised_to (part frame 38 15)) Silent (advertisement_items over) [] refl refl
      (places rulings n frame m k _ 1 38 _ _ (lit< tt)
      (counts rulings n frame m 38 _ DroppedIpv6MulticastNa _ _
      (leaves_unless rulings n frame m 38 _ over link_groups advertisement Silent (jump (to_end Drop) ∷ []) [] (part frame 38 15) (bytes_seen frame 38 15) (lit< tt) refl
      (answers rulings n frame m 38 Drop DroppedIpv6MulticastNa Silent (items.Label over ∷ []) (labelled rulings n frame m 38 _ over Silent [] le (done rulings n frame m 38 _)))
      (λ q0 q1. done rulings n frame m q0 q1))))
      (λ q0 q1. done rulings n frame m q0 q1))))

  unfiltered_yields : (over r0 r1 : ℕ) → 2 ≤ over
      → Yields rulings n frame m r0 r1 (unfiltered_of (next_header frame) (message_of (icmp_type frame) (part frame 38 15))) (unfiltered_items over)
  unfiltered_yields over r0 r1 le =
      reads_byte rulings n frame m r0 r1 1 20 _ _ (next_header frame) (number_seen frame 20 1) (λ h.
      counts rulings n frame m h r1 PassedIpv6NonIcmp _ _
      (answers_if rulings n frame m Jne 58 h Pass PassedIpv6NonIcmp _ _ refl
      (message_yields over h _ le)))

  filtered_yields : (message over r0 r1 : ℕ) → 2 ≤ message → 2 ≤ over
      → Yields rulings n frame m r0 r1 (filtered_of (next_header frame) (by_destination frame) (message_of (icmp_type frame) (part frame 38 15))) (filtered_items message over)
  unfolding stands
  filtered_yields message over r0 r1 here le =
      reads_byte rulings n frame m r0 r1 1 20 _ _ (next_header frame) (number_seen frame 20 1) (λ h.
      skips_if rulings n frame m Jeq 58 message h r1 (by_destination frame) (message_of (icmp_type frame) (part frame 38 15)) destination_items (message_items over) refl here refl
      (destination_yields h r1)
      (λ q0 q1. message_yields over q0 q1 le))

  dozing_yields : (destination message over r0 r1 : ℕ) → eqb destination message ≡ false → 2 ≤ destination → 2 ≤ message → 2 ≤ over
      → Yields rulings n frame m r0 r1 (dozing_of (next_header frame) (icmp_type frame) (by_destination frame) (message_of (icmp_type frame) (part frame 38 15))) (dozing_items destination message over)
  unfolding stands
  dozing_yields destination message over r0 r1 apart there here le =
      reads_byte rulings n frame m r0 r1 1 20 _ _ (next_header frame) (number_seen frame 20 1) (λ h.
      leaves_if rulings n frame m Jne 58 destination h r1 _ _ (load Ldb 54 ∷ jump_if Jne 128 (targets.Label message) ∷ []) (destination_items ++ (items.Label message ∷ message_items over)) refl refl
      (reads_byte rulings n frame m h r1 1 54 _ _ (icmp_type frame) (number_seen frame 54 1) (λ k.
      skips_if rulings n frame m Jne 128 message k r1 (by_destination frame) (message_of (icmp_type frame) (part frame 38 15)) (items.Label destination ∷ destination_items) (message_items over) refl here (or_false (eqb destination message) apart)
      (labelled rulings n frame m k r1 destination _ _ there (destination_yields k r1))
      (λ q0 q1. message_yields over q0 q1 le)))
      (λ q0 q1.
      then_on rulings n frame m q0 q1 (by_destination frame) (message_of (icmp_type frame) (part frame 38 15)) destination_items (items.Label message ∷ message_items over)
      (destination_yields q0 q1)
      (λ p0 p1. labelled rulings n frame m p0 p1 message _ _ here (message_yields over p0 p1 le))))

  yields_by : (multicast doze : Bool) (next r0 r1 : ℕ) → 2 ≤ next → Yields rulings n frame m r0 r1 (ruling_by multicast doze frame) (items_by multicast doze next)
  yields_by false doze next r0 r1 le = unfiltered_yields next r0 r1 le
  yields_by true false next r0 r1 le = filtered_yields (next + 1) next r0 r1 (omega arith) le
  yields_by true true next r0 r1 le = dozing_yields (next + 2) (next + 1) next r0 r1 (two_above next) (omega arith) (omega arith) le

pub ip6_tells : (basis : Basis) (next : ℕ) → 2 ≤ next → TellsSaid (λ age frame. said_of (ip6_header_lines basis frame)) (ip6_items basis next)
ip6_tells basis next le = told rulings (λ age frame. ip6_header_lines basis frame) _ (λ n frame age m ready.
    restated rulings n frame m m.r0 m.r1 _ _ _ (lines_same basis frame)
    (yields_by n frame m basis.state.multicast basis.state.doze next m.r0 m.r1 le))
