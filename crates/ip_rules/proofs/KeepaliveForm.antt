-- The forms of the items for keepalives.
use Rattle.std.proofs.Common.{◌≡◌, ℕ, zero, suc, ◌+◌, ◌%◌, ◌<◌, ◌≤◌, List, [], ◌∷◌, length, refl, ap, arith, lit<, lit≤, inl}
use Rattle.std.specs.Prelude.{slice_index}
use Rattle.apf_coding.specs.declared.instruction.Op.TheVariants.{Ldh, Ldbx, Add, Div, Ext, Li, Jne}
use Rattle.apf_coding.specs.declared.machine.Verdict.TheVariants.{Drop}
use Rattle.apf_asm.specs.declared.item.Target.TheVariants as targets
use Rattle.apf_asm.specs.Layout.{wide_length}
use Rattle.data_counters.specs.declared.counter.Counter.TheVariants.{DroppedIpv4KeepaliveAck}
use Rattle.data_counters.specs.Counters.{number_of}
use Rattle.policy_state.specs.declared.state.Keepalive.{Keepalive}
use Rattle.policy_state.specs.Ip4.{ends_of, opening_of}
use Rattle.apf_asm.specs.Building.{fixed, count, jump, jump_if_r1, jump_unless, load, to_end}
use Rattle.apf_asm.specs.Fragment.{AreFresh, IsFragment, labels}
use Rattle.apf_asm.proofs.Forms.{IsSound, stands-here, sound-nil, sound-byte, sound-fixed, sound-if_r1_label, sound-jump_end, sound-unless_label, sound-label, sound-count}
use Rattle.apf_asm.proofs.Parts.{fragment-of}
use Rattle.policy_state.proofs.Rulings.{has_word}
use Rattle.ip_rules.specs.Ip4Listing.{header_into, answer_items}

-- ---- bytes of numbers

abbrev Bytes : List ℕ → Type 0
Bytes [] = Unit {0}
Bytes (b ∷ bytes) = (b < 256) × Bytes bytes

each_byte : (bytes : List ℕ) → Bytes bytes → (k : ℕ) → slice_index bytes k < 256
each_byte [] h k = lit< tt
each_byte (b ∷ bytes) h zero = h.0
each_byte (b ∷ bytes) h (suc k) = each_byte bytes h.1 k

byte : (n : ℕ) → n % 256 < 256
byte n = omega arith

ends_bytes : (sent : Keepalive) (k : ℕ) → slice_index (ends_of sent) k < 256
ends_bytes sent = each_byte (ends_of sent) (byte _, (byte _, (byte _, (byte _, (byte _, (byte _, (byte _, (byte _, tt))))))))

opening_bytes : (sent : Keepalive) (k : ℕ) → slice_index (opening_of sent) k < 256
opening_bytes sent = each_byte (opening_of sent) (byte _, (byte _, (byte _, (byte _, (byte _, (byte _, (byte _, (byte _, (byte _, (byte _, (byte _, (byte _, tt))))))))))))

-- ---- one keepalive

sound-answer : (away : ℕ) (sent : Keepalive) → IsSound (answer_items away sent)
sound-answer away sent =
    let dropped = count (number_of DroppedIpv4KeepaliveAck) ∷ jump (to_end Drop) ∷ [] in
    let opening = header_into 0 ∷ fixed Add 0 1 14 ∷ jump_unless (opening_of sent) (targets.Label away) ∷ dropped in
    let size = header_into 1 ∷ load Ldbx 26 ∷ fixed Div 0 1 4 ∷ fixed Add 1 0 0 ∷ fixed Ldh 1 1 16 ∷ jump_if_r1 Jne (targets.Label away) ∷ opening in
    sound-byte Li 0 26 _ refl (lit< tt) (lit< tt) (sound-unless_label (ends_of sent) away _ (lit< tt) (lit≤ tt) (ends_bytes sent) (stands-here away size [])
    (sound-byte Ext 1 13 _ refl (lit< tt) (lit< tt) (sound-byte Ldbx 0 26 _ refl (lit< tt) (lit< tt) (sound-byte Div 0 4 _ refl (lit< tt) (lit< tt) (sound-fixed Add 1 0 0 _ refl (lit< tt) (inl refl) (lit< tt)
    (sound-byte Ldh 1 16 _ refl (lit< tt) (lit< tt) (sound-if_r1_label Jne away _ refl (stands-here away opening [])
    (sound-byte Ext 0 13 _ refl (lit< tt) (lit< tt) (sound-byte Add 0 14 _ refl (lit< tt) (lit< tt) (sound-unless_label (opening_of sent) away _ (lit< tt) (lit≤ tt) (opening_bytes sent) (stands-here away dropped [])
    (sound-count (number_of DroppedIpv4KeepaliveAck) _ (has_word DroppedIpv4KeepaliveAck) (sound-jump_end Drop _ (sound-label away [] sound-nil)))))))))))))

wide-answer : (away : ℕ) (sent : Keepalive) → wide_length (answer_items away sent) ≤ 65
wide-answer away sent = lit≤ tt

labels-answer : (away : ℕ) (sent : Keepalive) → labels (answer_items away sent) ≡ away ∷ []
unfolding labels
labels-answer away sent = refl

pub fresh-one : (away : ℕ) (ls : List ℕ) → ls ≡ away ∷ [] → AreFresh away (away + 1) ls
fresh-one away ls e = rw e (omega arith, omega arith, tt, tt)

pub answer_fragment : (away : ℕ) (sent : Keepalive) → IsFragment away (away + 1) 65 (answer_items away sent)
answer_fragment away sent =
    fragment-of away (away + 1) 65 (answer_items away sent)
    (sound-answer away sent)
    (omega arith)
    (fresh-one away _ (labels-answer away sent))
    (omega (arith, ap length (labels-answer away sent)))
    (wide-answer away sent)
