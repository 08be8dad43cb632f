-- The forms of the IPv6 items.
use Rattle.std.proofs.Common.{ℕ, ◌+◌, ◌≤◌, Bool, true, false, [], ◌∷◌, ◌++◌, length, refl, arith, lit<, lit≤}
use Rattle.apf_coding.specs.declared.instruction.Op.TheVariants.{Ldb, Li, Jeq, Jne}
use Rattle.apf_coding.specs.declared.machine.Verdict.TheVariants.{Pass, Drop}
use Rattle.apf_asm.specs.declared.item.Item.TheVariants as items
use Rattle.apf_asm.specs.declared.item.Target.TheVariants as targets
use Rattle.apf_asm.specs.Layout.{wide_length}
use Rattle.data_counters.specs.declared.counter.Counter.TheVariants.{PassedIpv6NonIcmp, PassedIpv6UnicastNonIcmp, DroppedIpv6RouterSolicitation, DroppedIpv6MulticastNa, DroppedIpv6Multicast}
use Rattle.data_counters.specs.Counters.{number_of}
use Rattle.policy_state.specs.declared.basis.Basis.{Basis}
use Rattle.policy_state.specs.Ip6.{link_groups}
use Rattle.apf_asm.specs.Building.{to_end, load, jump_if, jump}
use Rattle.apf_asm.specs.Fragment.{AreFresh, IsFragment, labels}
use Rattle.apf_asm.proofs.Forms.{IsSound, stands-here, bytes_fit, sound-nil, sound-append, sound-byte, sound-if_end, sound-if_label, sound-jump_end, sound-unless_label, sound-label, sound-count}
use Rattle.apf_asm.proofs.Parts.{fragment-of}
use Rattle.policy_state.proofs.Rulings.{has_word}
use Rattle.ip_rules.specs.Ip6Listing.{destination_items, advertisement_items, message_items, filtered_items, dozing_items, items_by, ip6_items}

sound-destination : IsSound destination_items
sound-destination =
    sound-count (number_of DroppedIpv6Multicast) _ (has_word DroppedIpv6Multicast) (sound-byte Ldb 0 38 _ refl (lit< tt) (lit< tt) (sound-if_end Jeq 0xff Drop _ refl (lit< tt)
    (sound-count (number_of PassedIpv6UnicastNonIcmp) _ (has_word PassedIpv6UnicastNonIcmp) (sound-jump_end Pass [] sound-nil))))

sound-message : (over : ℕ) → IsSound (message_items over)
sound-message over =
    sound-byte Ldb 0 54 _ refl (lit< tt) (lit< tt) (sound-count (number_of DroppedIpv6RouterSolicitation) _ (has_word DroppedIpv6RouterSolicitation) (sound-if_end Jeq 133 Drop _ refl (lit< tt)
    (sound-if_label Jne 136 over (advertisement_items over ++ (items.Label over ∷ [])) refl (lit< tt) (stands-here over (advertisement_items over) [])
    (sound-byte Li 0 38 _ refl (lit< tt) (lit< tt) (sound-count (number_of DroppedIpv6MulticastNa) _ (has_word DroppedIpv6MulticastNa)
    (sound-unless_label link_groups over _ (lit< tt) (lit≤ tt) (bytes_fit link_groups refl) (stands-here over (jump (to_end Drop) ∷ []) [])
    (sound-jump_end Drop _ (sound-label over [] sound-nil))))))))

sound-filtered : (message over : ℕ) → IsSound (filtered_items message over)
sound-filtered message over =
    sound-byte Ldb 0 20 _ refl (lit< tt) (lit< tt)
    (sound-if_label Jeq 58 message (destination_items ++ (items.Label message ∷ message_items over)) refl (lit< tt) (stands-here message destination_items (message_items over))
    (sound-append destination_items (items.Label message ∷ message_items over) sound-destination (sound-label message (message_items over) (sound-message over))))

sound-dozing : (destination message over : ℕ) → IsSound (dozing_items destination message over)
sound-dozing destination message over =
    let asked = destination_items ++ (items.Label message ∷ message_items over) in
    sound-byte Ldb 0 20 _ refl (lit< tt) (lit< tt)
    (sound-if_label Jne 58 destination (load Ldb 54 ∷ jump_if Jne 128 (targets.Label message) ∷ items.Label destination ∷ asked) refl (lit< tt)
    (stands-here destination (load Ldb 54 ∷ jump_if Jne 128 (targets.Label message) ∷ []) asked)
    (sound-byte Ldb 0 54 _ refl (lit< tt) (lit< tt)
    (sound-if_label Jne 128 message (items.Label destination ∷ asked) refl (lit< tt) (stands-here message (items.Label destination ∷ destination_items) (message_items over))
    (sound-label destination asked
    (sound-append destination_items (items.Label message ∷ message_items over) sound-destination (sound-label message (message_items over) (sound-message over)))))))

sound-by : (multicast doze : Bool) (next : ℕ) → IsSound (items_by multicast doze next)
sound-by false doze next =
    sound-byte Ldb 0 20 _ refl (lit< tt) (lit< tt) (sound-count (number_of PassedIpv6NonIcmp) _ (has_word PassedIpv6NonIcmp) (sound-if_end Jne 58 Pass _ refl (lit< tt) (sound-message next)))
sound-by true false next = sound-filtered (next + 1) next
sound-by true true next = sound-dozing (next + 2) (next + 1) next

wide-by : (multicast doze : Bool) (next : ℕ) → wide_length (items_by multicast doze next) ≤ 124
wide-by false doze next = lit≤ tt
wide-by true false next = lit≤ tt
wide-by true true next = lit≤ tt

fresh-by : (multicast doze : Bool) (next : ℕ) → AreFresh next (next + 3) (labels (items_by multicast doze next))
unfolding labels
fresh-by false doze next = (omega arith, omega arith, tt, tt)
fresh-by true false next = (omega arith, omega arith, ((λ e. absurd (omega arith)), tt), (omega arith, omega arith, tt, tt))
fresh-by true true next = (
  omega arith,
  omega arith,
  ((λ e. absurd (omega arith)), ((λ e. absurd (omega arith)), tt)),
  (omega arith, omega arith, ((λ e. absurd (omega arith)), tt), (omega arith, omega arith, tt, tt)),
)

few-by : (multicast doze : Bool) (next : ℕ) → next + length (labels (items_by multicast doze next)) ≤ next + 3
unfolding labels
few-by false doze next = omega arith
few-by true false next = omega arith
few-by true true next = omega arith

pub ip6_fragment : (basis : Basis) (next : ℕ) → IsFragment next (next + 3) 124 (ip6_items basis next)
ip6_fragment basis next =
    let multicast = basis.state.multicast in
    let doze = basis.state.doze in
    fragment-of next (next + 3) 124 (ip6_items basis next)
    (sound-by multicast doze next)
    (omega arith)
    (fresh-by multicast doze next)
    (few-by multicast doze next)
    (wide-by multicast doze next)
