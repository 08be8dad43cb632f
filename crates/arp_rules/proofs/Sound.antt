-- The forms of the link and ARP items.
use Rattle.std.proofs.Common.{◌≡◌, ℕ, ◌+◌, ◌*◌, ◌<◌, ◌≤◌, ◌^◌, Bool, true, false, List, [], ◌∷◌, ◌++◌, length, Option, Some, None, refl, ap, arith, lit<, lit≤}
use Rattle.std.specs.Prelude.{All}
use Rattle.std.proofs.lemmas.List.Elements.{All-head, All-tail}
use Rattle.std.proofs.lemmas.List.Sums.{sum_by-append, sum_by-cons}
use Rattle.apf_coding.specs.declared.instruction.Op.TheVariants.{Ldh, Ldw, Li, Jeq, Jne, Jlt}
use Rattle.apf_coding.specs.declared.machine.Verdict.TheVariants.{Pass, Drop}
use Rattle.apf_asm.specs.declared.item.Item.{Item}
use Rattle.apf_asm.specs.declared.item.Item.TheVariants as items
use Rattle.apf_asm.specs.Layout.{wide_size, wide_length}
use Rattle.data_counters.specs.declared.counter.Counter.TheVariants.{PassedArp, PassedArpNonIpv4, PassedArpUnknown, PassedArpUnicastReply, Dropped8023Frame, DroppedEthertypeDenied, DroppedArpReplySpaNoHost, DroppedGarpReply, DroppedArpOtherHost}
use Rattle.data_counters.specs.Counters.{number_of}
use Rattle.policy_state.specs.declared.basis.Basis.{Basis}
use Rattle.policy_state.specs.declared.state.Address.{Address}
use Rattle.policy_state.specs.Ethernet.{broadcast}
use Rattle.policy_state.specs.Policy.{arp_opening}
use Rattle.apf_asm.specs.Building.{to_end, load, count, jump_if}
use Rattle.apf_asm.specs.Fragment.{AreFresh, IsFragment, labels}
use Rattle.apf_asm.proofs.Forms.{IsSound, stands-here, bytes_fit, sound-nil, sound-append, sound-byte, sound-if_end, sound-if_label, sound-jump_end, sound-unless_end, sound-label, sound-count}
use Rattle.apf_asm.proofs.Parts.{fragment-of}
use Rattle.arp_rules.specs.Listing.{length_items, deny_items, denied_items, link_items, reply_items, target_items, packet_items, arp_items, IsAddressInRange}
use Rattle.policy_state.proofs.Rulings.{has_word}
use Rattle.policy_state.specs.Rooms.{arp_room, link_room}
use Rattle.policy_state.specs.Weights.{denied_weight}

-- ---- the Ethernet header

sound-deny : (deny : List ℕ) → All (λ d. d < 2 ^ 16) deny → IsSound (deny_items deny)
sound-deny [] fits = sound-nil
sound-deny (d ∷ deny) fits =
    let lt : d < 2 ^ 16 = All-head (λ d. d < 2 ^ 16) d deny fits in
    sound-if_end Jeq d Drop (deny_items deny) refl (omega arith) (sound-deny deny (All-tail (λ d. d < 2 ^ 16) d deny fits))

sound-length : (on : Bool) (xs : List Item) → IsSound xs → IsSound (length_items on ++ xs)
sound-length true xs s = sound-count (number_of Dropped8023Frame) _ (has_word Dropped8023Frame) (sound-if_end Jlt 0x600 Drop xs refl (lit< tt) s)
sound-length false xs s = s

wide-deny : (deny : List ℕ) → wide_length (deny_items deny) ≡ denied_weight * length deny
wide-deny [] = refl
wide-deny (d ∷ deny) = omega (arith, wide-deny deny, sum_by-cons wide_size (jump_if Jeq d (to_end Drop)) (deny_items deny))

labels-deny : (deny : List ℕ) → labels (deny_items deny) ≡ []
unfolding labels
labels-deny [] = refl
labels-deny (d ∷ deny) = labels-deny deny

labels-link : (on : Bool) (deny : List ℕ) → labels (length_items on ++ denied_items deny) ≡ []
unfolding labels
labels-link true deny = labels-deny deny
labels-link false deny = labels-deny deny

wide-link : (basis : Basis) → wide_length (link_items basis) ≤ link_room + denied_weight * length basis.config.deny
wide-link basis =
    omega (
      arith,
      sum_by-append wide_size (load Ldh 12 ∷ length_items basis.config.drop_802_3) (denied_items basis.config.deny),
      wide-length basis.config.drop_802_3,
      sum_by-cons wide_size (count (number_of DroppedEthertypeDenied)) (deny_items basis.config.deny),
      wide-deny basis.config.deny,
    )
  where
    wide-length : (on : Bool) → wide_length (load Ldh 12 ∷ length_items on) ≤ 13
    wide-length true = lit≤ tt
    wide-length false = lit≤ tt

fresh-none : (next : ℕ) (ls : List ℕ) → ls ≡ [] → AreFresh next next ls
fresh-none next [] e = tt
fresh-none next (l ∷ ls) e = absurd cc

pub link_fragment : (basis : Basis) (next : ℕ) → All (λ d. d < 2 ^ 16) basis.config.deny → IsFragment next next (link_room + denied_weight * length basis.config.deny) (link_items basis)
unfolding labels
link_fragment basis next fits =
    let deny = basis.config.deny in
    let on = basis.config.drop_802_3 in
    fragment-of next next _ (link_items basis)
    (sound-byte Ldh 0 12 _ refl (lit< tt) (lit< tt) (sound-length on (denied_items deny) (sound-count (number_of DroppedEthertypeDenied) _ (has_word DroppedEthertypeDenied) (sound-deny deny fits))))
    (omega arith)
    (fresh-none next _ (labels-link on deny))
    (omega (arith, ap length (labels-link on deny)))
    (wide-link basis)

-- ---- ARP

sound-reply : IsSound reply_items
sound-reply =
    sound-count (number_of PassedArpUnknown) _ (has_word PassedArpUnknown) (sound-if_end Jne 2 Pass _ refl (lit< tt)
    (sound-byte Ldw 0 28 _ refl (lit< tt) (lit< tt) (sound-count (number_of DroppedArpReplySpaNoHost) _ (has_word DroppedArpReplySpaNoHost) (sound-if_end Jeq 0 Drop _ refl (lit< tt)
    (sound-byte Li 0 0 _ refl (lit< tt) (lit< tt) (sound-count (number_of PassedArpUnicastReply) _ (has_word PassedArpUnicastReply) (sound-unless_end broadcast Pass [] (lit< tt) (lit≤ tt) (bytes_fit broadcast refl) sound-nil)))))))

sound-target : (address : Option Address) → IsAddressInRange address → IsSound (target_items address)
sound-target None fits =
    sound-byte Ldw 0 38 _ refl (lit< tt) (lit< tt) (sound-count (number_of DroppedGarpReply) _ (has_word DroppedGarpReply) (sound-if_end Jeq 0 Drop _ refl (lit< tt)
    (sound-count (number_of PassedArp) _ (has_word PassedArp) (sound-jump_end Pass [] sound-nil))))
sound-target (Some address) fits =
    sound-byte Ldw 0 38 _ refl (lit< tt) (lit< tt) (sound-count (number_of DroppedArpOtherHost) _ (has_word DroppedArpOtherHost) (sound-if_end Jne address.ip Drop _ refl fits
    (sound-count (number_of PassedArp) _ (has_word PassedArp) (sound-jump_end Pass [] sound-nil))))

sound-packet : (request : ℕ) (address : Option Address) → IsAddressInRange address → IsSound (packet_items request address)
sound-packet request address fits =
    sound-byte Li 0 14 _ refl (lit< tt) (lit< tt) (sound-count (number_of PassedArpNonIpv4) _ (has_word PassedArpNonIpv4) (sound-unless_end arp_opening Pass _ (lit< tt) (lit≤ tt) (bytes_fit arp_opening refl)
    (sound-byte Ldh 0 20 _ refl (lit< tt) (lit< tt)
    (sound-if_label Jeq 1 request (reply_items ++ (items.Label request ∷ target_items address)) refl (lit< tt) (stands-here request reply_items (target_items address))
    (sound-append reply_items (items.Label request ∷ target_items address) sound-reply (sound-label request (target_items address) (sound-target address fits)))))))

sound-arp : (next : ℕ) (address : Option Address) → IsAddressInRange address → IsSound (arp_items next address)
sound-arp next address fits =
    sound-byte Ldh 0 12 _ refl (lit< tt) (lit< tt)
    (sound-if_label Jne 0x806 next (packet_items (next + 1) address ++ (items.Label next ∷ [])) refl (lit< tt) (stands-here next (packet_items (next + 1) address) [])
    (sound-append (packet_items (next + 1) address) (items.Label next ∷ []) (sound-packet (next + 1) address fits) (sound-label next [] sound-nil)))

wide-arp : (next : ℕ) (address : Option Address) → wide_length (arp_items next address) ≤ arp_room
wide-arp next None = lit≤ tt
wide-arp next (Some address) = lit≤ tt

labels-arp : (next : ℕ) (address : Option Address) → labels (arp_items next address) ≡ (next + 1) ∷ next ∷ []
unfolding labels
labels-arp next None = refl
labels-arp next (Some address) = refl

fresh-two : (next : ℕ) (ls : List ℕ) → ls ≡ (next + 1) ∷ next ∷ [] → AreFresh next (next + 2) ls
fresh-two next ls e = rw e (omega arith, omega arith, ((λ h. absurd (omega arith)), tt), (omega arith, omega arith, tt, tt))

pub arp_fragment : (next : ℕ) (address : Option Address) → IsAddressInRange address → IsFragment next (next + 2) arp_room (arp_items next address)
arp_fragment next address fits =
    fragment-of next (next + 2) arp_room (arp_items next address)
    (sound-arp next address fits)
    (omega arith)
    (fresh-two next _ (labels-arp next address))
    (omega (arith, ap length (labels-arp next address)))
    (wide-arp next address)
