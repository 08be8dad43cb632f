-- The ARP items say what the question on ARP answers.
use Rattle.std.proofs.Common.{◌≡◌, ℕ, ◌+◌, ◌≤◌, Bool, true, false, cond, not, eqb, List, [], Option, Some, None, refl, sym, ap, ◌∙◌, arith, lit<}
use Rattle.std.specs.Prelude.{◌&&◌, ◌||◌, bytes_eq}
use Rattle.std.proofs.lemmas.Bool.{false≢true}
use Rattle.std.proofs.lemmas.Bool.Decides.{nat_tests}
use Rattle.apf_coding.specs.Meaning.{State}
use Rattle.apf_coding.specs.declared.instruction.Op.TheVariants.{Jeq, Jne}
use Rattle.apf_coding.specs.declared.machine.Verdict.{Verdict}
use Rattle.apf_coding.specs.declared.machine.Verdict.TheVariants.{Pass, Drop}
use Rattle.apf_asm.specs.Refusals.{stands}
use Rattle.data_counters.specs.declared.counter.Counter.{Counter}
use Rattle.data_counters.specs.declared.counter.Counter.TheVariants.{PassedArp, PassedArpNonIpv4, PassedArpUnknown, PassedArpUnicastReply, DroppedArpReplySpaNoHost, DroppedGarpReply, DroppedArpOtherHost}
use Rattle.frame_views.specs.Fields.{part}
use Rattle.policy_state.specs.declared.basis.Basis.{Basis}
use Rattle.policy_state.specs.declared.state.Address.{Address}
use Rattle.policy_state.specs.declared.ruling.Ruling.{Ruling}
use Rattle.policy_state.specs.declared.ruling.Ruling.TheVariants.{Says, Silent}
use Rattle.policy_state.specs.Asking.{reading, when, otherwise}
use Rattle.policy_state.specs.Ethernet.{ethertype, destination, broadcast}
use Rattle.policy_state.specs.Policy.{arp_opening, arp_operation, arp_sender, arp_target, gratuitous_arp, arp_for_other_hosts, arp_lines, arp}
use Rattle.policy_state.proofs.AskingLaws.{otherwise-assoc, otherwise-silent, reading-cond, when-not}
use Rattle.policy_state.proofs.FieldsSeen.{number_seen, bytes_seen}
use Rattle.apf_asm.specs.Saying.{TellsSaid}
use Rattle.apf_asm.proofs.Rules.{Yields, done, restated, counts, places, reads_half, reads_word, answers, answers_if, answers_unless, skips_if, told}
use Rattle.arp_rules.specs.Listing.{reply_items, target_items, operation_items, packet_items, arp_items}
use Rattle.policy_state.specs.Rulings.{said_of}
use Rattle.policy_state.proofs.Rulings.{rulings}

-- ---- the rulings as the items come to them

-- whom the packet asks for, and else it passes
abbrev asked : Option Address → List ℕ → Ruling
asked address frame = otherwise (gratuitous_arp address frame) (otherwise (arp_for_other_hosts address frame) (Says Pass PassedArp))

abbrev reply_of : Option ℕ → Option (List ℕ) → ℕ → Ruling
reply_of sender mac op =
    cond (not (eqb op 2)) (Says Pass PassedArpUnknown)
    (reading sender (λ s. cond (eqb s 0) (Says Drop DroppedArpReplySpaNoHost)
    (reading mac (λ there. cond (not (bytes_eq there broadcast)) (Says Pass PassedArpUnicastReply) Silent))))

abbrev operation_of : Option ℕ → Option ℕ → Option (List ℕ) → Ruling → Ruling
operation_of operation sender mac later = reading operation (λ op. cond (eqb op 1) later (otherwise (reply_of sender mac op) later))

abbrev packet_of : Option (List ℕ) → Option ℕ → Option ℕ → Option (List ℕ) → Ruling → Ruling
packet_of opening operation sender mac later =
    reading opening (λ there. cond (not (bytes_eq there arp_opening)) (Says Pass PassedArpNonIpv4) (operation_of operation sender mac later))

-- ---- are those of the table

-- one operation, by the tests of it
one_operation : (request reply : Bool) (x y later : Ruling) (v : Verdict) (c : Counter) → (request ≡ true → reply ≡ false)
    → cond request later (otherwise (cond (not reply) (Says v c) (otherwise x y)) later)
    ≡ otherwise (when (not request && not reply) (Says v c)) (otherwise (when reply x) (otherwise (when reply y) later))
one_operation true true x y later v c apart = absurd (false≢true (sym (apart refl)))
one_operation true false x y later v c apart = refl
one_operation false true x y later v c apart = otherwise-assoc x y later
one_operation false false x y later v c apart = refl

one_or_two : (op : ℕ) → eqb op 1 ≡ true → eqb op 2 ≡ false
one_or_two op e = grind (arith, nat_tests)

abbrev no_host : Option ℕ → Ruling
no_host sender = reading sender (λ s. when (eqb s 0) (Says Drop DroppedArpReplySpaNoHost))

abbrev unicast : Option (List ℕ) → Ruling
unicast mac = reading mac (λ there. when (not (bytes_eq there broadcast)) (Says Pass PassedArpUnicastReply))

-- a reply's two parts, which are read one behind the other
reply_parts : (sender : Option ℕ) (mac : Option (List ℕ)) (op : ℕ)
    → reply_of sender mac op ≡ cond (not (eqb op 2)) (Says Pass PassedArpUnknown) (otherwise (no_host sender) (unicast mac))
reply_parts sender mac op = ap (λ (a : Ruling). cond (not (eqb op 2)) (Says Pass PassedArpUnknown) a)
    (reading-cond sender (λ s. eqb s 0) Drop DroppedArpReplySpaNoHost _
    ∙ ap (λ (a : Ruling). otherwise (no_host sender) a)
    (reading-cond mac (λ there. not (bytes_eq there broadcast)) Pass PassedArpUnicastReply Silent ∙ otherwise-silent (unicast mac)))

operation_same : (operation sender : Option ℕ) (mac : Option (List ℕ)) (later : Ruling)
    → operation_of operation sender mac later
    ≡ otherwise (reading operation (λ op. when (not (eqb op 1) && not (eqb op 2)) (Says Pass PassedArpUnknown)))
    (otherwise (reading operation (λ op. when (eqb op 2) (no_host sender)))
    (otherwise (reading operation (λ op. when (eqb op 2) (unicast mac))) later))
operation_same None sender mac later = refl
operation_same (Some op) sender mac later =
    ap (λ (a : Ruling). cond (eqb op 1) later (otherwise a later)) (reply_parts sender mac op)
    ∙ one_operation (eqb op 1) (eqb op 2) _ _ later Pass PassedArpUnknown (one_or_two op)

lines_same : (basis : Basis) (frame : List ℕ)
    → packet_of (part frame 14 6) (arp_operation frame) (arp_sender frame) (destination frame) (asked basis.state.address frame) ≡ arp_lines basis frame
lines_same basis frame =
    reading-cond (part frame 14 6) (λ there. not (bytes_eq there arp_opening)) Pass PassedArpNonIpv4 _
    ∙ ap (λ (later : Ruling). otherwise (reading (part frame 14 6) (λ there. when (not (bytes_eq there arp_opening)) (Says Pass PassedArpNonIpv4))) later)
    (operation_same (arp_operation frame) (arp_sender frame) (destination frame) (asked basis.state.address frame))

arp_same : (o : Option ℕ) (a b : Ruling) → a ≡ b → reading o (λ e. cond (not (eqb e 0x806)) Silent (otherwise a Silent)) ≡ reading o (λ e. when (eqb e 0x806) b)
arp_same None a b p = refl
arp_same (Some e) a b p = when-not (eqb e 0x806) (otherwise a Silent) ∙ ap (λ (r : Ruling). when (eqb e 0x806) r) (otherwise-silent a ∙ p)

-- ---- the items come to them

module _ (n : ℕ) (frame : List ℕ) (m : State) where
  target_yields : (address : Option Address) (r0 r1 : ℕ) → Yields rulings n frame m r0 r1 (asked address frame) (target_items address)
  target_yields None r0 r1 = restated rulings n frame m r0 r1 _ _ _ (reading-cond (arp_target frame) (λ t. eqb t 0) Drop DroppedGarpReply (Says Pass PassedArp))
      (reads_word rulings n frame m r0 r1 1 38 _ _ (arp_target frame) (number_seen frame 38 4) (λ t.
      counts rulings n frame m t r1 DroppedGarpReply _ _
      (answers_if rulings n frame m Jeq 0 t Drop DroppedGarpReply _ _ refl
      (counts rulings n frame m t _ PassedArp _ _
      (answers rulings n frame m t Pass PassedArp _ _ (done rulings n frame m t _))))))
  target_yields (Some address) r0 r1 = restated rulings n frame m r0 r1 _ _ _ (reading-cond (arp_target frame) (λ t. not (eqb t address.ip)) Drop DroppedArpOtherHost (Says Pass PassedArp))
      (reads_word rulings n frame m r0 r1 1 38 _ _ (arp_target frame) (number_seen frame 38 4) (λ t.
      counts rulings n frame m t r1 DroppedArpOtherHost _ _
      (answers_if rulings n frame m Jne address.ip t Drop DroppedArpOtherHost _ _ refl
      (counts rulings n frame m t _ PassedArp _ _
      (answers rulings n frame m t Pass PassedArp _ _ (done rulings n frame m t _))))))

  reply_yields : (op r1 : ℕ) → Yields rulings n frame m op r1 (reply_of (arp_sender frame) (destination frame) op) reply_items
  reply_yields op r1 =
      counts rulings n frame m op r1 PassedArpUnknown _ _
      (answers_if rulings n frame m Jne 2 op Pass PassedArpUnknown _ _ refl
      (reads_word rulings n frame m op _ 1 28 _ _ (arp_sender frame) (number_seen frame 28 4) (λ s.
      counts rulings n frame m s _ DroppedArpReplySpaNoHost _ _
      (answers_if rulings n frame m Jeq 0 s Drop DroppedArpReplySpaNoHost _ _ refl
      (places rulings n frame m s _ 1 0 _ _ (lit< tt)
      (counts rulings n frame m 0 _ PassedArpUnicastReply _ _
      (answers_unless rulings n frame m 0 broadcast Pass PassedArpUnicastReply Silent [] (destination frame) (bytes_seen frame 0 6) (lit< tt)
      (done rulings n frame m 0 _))))))))

  operation_yields : (request : ℕ) (address : Option Address) (r0 r1 : ℕ) → 2 ≤ request
      → Yields rulings n frame m r0 r1 (operation_of (arp_operation frame) (arp_sender frame) (destination frame) (asked address frame)) (operation_items request address)
  unfolding stands
  operation_yields request address r0 r1 le =
      reads_half rulings n frame m r0 r1 1 20 _ _ (arp_operation frame) (number_seen frame 20 2) (λ op.
      skips_if rulings n frame m Jeq 1 request op r1 (reply_of (arp_sender frame) (destination frame) op) (asked address frame) reply_items (target_items address) refl le refl
      (reply_yields op r1)
      (target_yields address))

  packet_yields : (request : ℕ) (address : Option Address) (r0 r1 : ℕ) → 2 ≤ request
      → Yields rulings n frame m r0 r1 (packet_of (part frame 14 6) (arp_operation frame) (arp_sender frame) (destination frame) (asked address frame)) (packet_items request address)
  packet_yields request address r0 r1 le =
      places rulings n frame m r0 r1 1 14 _ _ (lit< tt)
      (counts rulings n frame m 14 r1 PassedArpNonIpv4 _ _
      (answers_unless rulings n frame m 14 arp_opening Pass PassedArpNonIpv4 _ _ (part frame 14 6) (bytes_seen frame 14 6) (lit< tt)
      (operation_yields request address 14 _ le)))

-- ---- where the labels stand

target_apart : (l : ℕ) (address : Option Address) → stands l (target_items address) ≡ false
unfolding stands
target_apart l None = refl
target_apart l (Some address) = refl

both_false : (b c : Bool) → b ≡ false → c ≡ false → (b || c) ≡ false
both_false true c e f = e
both_false false c e f = f

above : (next : ℕ) → eqb (next + 1) next ≡ false
above next = grind (arith, nat_tests)

packet_apart : (next : ℕ) (address : Option Address) → stands next (packet_items (next + 1) address) ≡ false
unfolding stands
packet_apart next address = both_false (eqb (next + 1) next) (stands next (target_items address)) (above next) (target_apart next address)

pub arp_tells : (basis : Basis) (next : ℕ) → 2 ≤ next → TellsSaid (λ age frame. said_of (arp basis frame)) (arp_items next basis.state.address)
arp_tells basis next le = told rulings (λ age frame. arp basis frame) _ (λ n frame age m ready.
    restated rulings n frame m m.r0 m.r1 _ _ _ (arp_same (ethertype frame) _ _ (lines_same basis frame))
    (reads_half rulings n frame m m.r0 m.r1 1 12 _ _ (ethertype frame) (number_seen frame 12 2) (λ e.
    skips_if rulings n frame m Jne 0x806 next e m.r1 _ Silent (packet_items (next + 1) basis.state.address) [] refl le (packet_apart next basis.state.address)
    (packet_yields n frame m (next + 1) basis.state.address e m.r1 (omega arith))
    (λ q0 q1. done rulings n frame m q0 q1))))
