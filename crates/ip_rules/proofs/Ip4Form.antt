-- The forms of the items for IPv4.
use Rattle.std.proofs.Common.{◌≡◌, ℕ, ◌+◌, ◌<◌, ◌≤◌, ◌^◌, Bool, true, false, cond, ltb, List, [], ◌∷◌, ◌++◌, length, Option, Some, None, refl, ap, subst, arith, lit<, lit≤}
use Rattle.std.proofs.lemmas.Bool.{ltb-true}
use Rattle.apf_coding.specs.declared.instruction.Op.TheVariants.{Ldb, Ldh, Ldw, Ldbx, Ldhx, Add, And, Ext, Li, Jeq, Jne, Jset}
use Rattle.apf_coding.specs.declared.machine.Verdict.TheVariants.{Pass, Drop}
use Rattle.apf_asm.specs.declared.item.Item.{Item}
use Rattle.apf_asm.specs.declared.item.Target.TheVariants as targets
use Rattle.apf_asm.specs.Layout.{wide_length}
use Rattle.data_counters.specs.declared.counter.Counter.TheVariants.{PassedDhcp, PassedIpv4, PassedIpv4Unicast, DroppedIpv4L2Broadcast, DroppedIpv4BroadcastAddr, DroppedIpv4BroadcastNet, DroppedIpv4Multicast, DroppedIpv4NattKeepalive}
use Rattle.data_counters.specs.Counters.{number_of}
use Rattle.policy_state.specs.declared.basis.Basis.{Basis}
use Rattle.policy_state.specs.declared.state.Address.{Address}
use Rattle.policy_state.specs.Ethernet.{broadcast}
use Rattle.policy_state.specs.Ip4.{net_broadcast_of}
use Rattle.apf_asm.specs.Building.{fixed, count, jump, jump_if, jump_unless, load, to_end}
use Rattle.apf_asm.specs.Fragment.{IsFragment, labels}
use Rattle.apf_asm.proofs.Forms.{IsSound, stands-here, bytes_fit, sound-nil, sound-byte, sound-if_end, sound-if_label, sound-jump_end, sound-unless_end, sound-unless_label, sound-label, sound-count}
use Rattle.apf_asm.proofs.Parts.{fragment-of, fragment-then, fragment-turned}
use Rattle.policy_state.proofs.Rulings.{has_word}
use Rattle.policy_state.specs.Ranges.{IsMac}
use Rattle.ip_rules.specs.Ip4Listing.{header_into, dhcp_items, net_items, destination_items, filtered_items, natt_items, last_items, behind_items, ip4_items, IsNetInRange}
use Rattle.ip_rules.proofs.Ip4Ruling.{packet_items}
use Rattle.ip_rules.proofs.Over.{over_fragment}
use Rattle.ip_rules.proofs.KeepaliveForm.{fresh-one}

-- ---- DHCP

sound-dhcp : (away : ℕ) (mac : List ℕ) → IsMac mac → IsSound (dhcp_items away mac)
sound-dhcp away mac is_mac =
    let passed = count (number_of PassedDhcp) ∷ jump (to_end Pass) ∷ [] in
    let client = header_into 0 ∷ fixed Add 0 1 50 ∷ jump_unless mac (targets.Label away) ∷ passed in
    let port = header_into 1 ∷ load Ldhx 16 ∷ jump_if Jne 68 (targets.Label away) ∷ client in
    let fragment = load Ldh 20 ∷ jump_if Jset 0x1fff (targets.Label away) ∷ port in
    sound-byte Ldb 0 23 _ refl (lit< tt) (lit< tt) (sound-if_label Jne 17 away _ refl (lit< tt) (stands-here away fragment [])
    (sound-byte Ldh 0 20 _ refl (lit< tt) (lit< tt) (sound-if_label Jset 0x1fff away _ refl (lit< tt) (stands-here away port [])
    (sound-byte Ext 1 13 _ refl (lit< tt) (lit< tt) (sound-byte Ldhx 0 16 _ refl (lit< tt) (lit< tt) (sound-if_label Jne 68 away _ refl (lit< tt) (stands-here away client [])
    (sound-byte Ext 0 13 _ refl (lit< tt) (lit< tt) (sound-byte Add 0 50 _ refl (lit< tt) (lit< tt)
    (sound-unless_label mac away _ (omega (arith, is_mac.six)) (omega (arith, is_mac.six)) is_mac.bytes (stands-here away passed [])
    (sound-count (number_of PassedDhcp) _ (has_word PassedDhcp) (sound-jump_end Pass _ (sound-label away [] sound-nil))))))))))))

wide-dhcp : (away : ℕ) (mac : List ℕ) → length mac ≡ 6 → wide_length (dhcp_items away mac) ≤ 61
wide-dhcp away mac six = omega (arith, six)

labels-dhcp : (away : ℕ) (mac : List ℕ) → labels (dhcp_items away mac) ≡ away ∷ []
unfolding labels
labels-dhcp away mac = refl

dhcp_fragment : (away : ℕ) (mac : List ℕ) → IsMac mac → IsFragment away (away + 1) 61 (dhcp_items away mac)
dhcp_fragment away mac is_mac =
    fragment-of away (away + 1) 61 (dhcp_items away mac)
    (sound-dhcp away mac is_mac)
    (omega arith)
    (fresh-one away _ (labels-dhcp away mac))
    (omega (arith, ap length (labels-dhcp away mac)))
    (wide-dhcp away mac is_mac.six)

-- ---- multicast and broadcast

net_cases : (l number : ℕ) (b : Bool) → (b ≡ true → number < 2 ^ 32) → IsFragment l l 11 (cond b (count (number_of DroppedIpv4BroadcastNet) ∷ jump_if Jeq number (to_end Drop) ∷ []) [])
unfolding labels
net_cases l number true low =
    fragment-of l l 11 _ (sound-count (number_of DroppedIpv4BroadcastNet) _ (has_word DroppedIpv4BroadcastNet) (sound-if_end Jeq number Drop _ refl (low refl) sound-nil)) (omega arith) tt (omega arith) (lit≤ tt)
net_cases l number false low = fragment-of l l 11 [] sound-nil (omega arith) tt (omega arith) (lit≤ tt)

net_fragment : (l : ℕ) (address : Option Address) → IsNetInRange address → IsFragment l l 11 (net_items address)
unfolding labels
net_fragment l None fits = fragment-of l l 11 [] sound-nil (omega arith) tt (omega arith) (lit≤ tt)
net_fragment l (Some address) fits = net_cases l (net_broadcast_of address) (ltb address.prefix 31) (λ e. fits (ltb-true address.prefix 31 e))

destination_fragment : (l : ℕ) (address : Option Address) → IsNetInRange address → IsFragment l l 39 (destination_items address)
unfolding labels
destination_fragment l address fits =
    let front = load Ldb 30 ∷ fixed And 0 1 0xf0 ∷ count (number_of DroppedIpv4Multicast) ∷ jump_if Jeq 0xe0 (to_end Drop) ∷ load Ldw 30 ∷ count (number_of DroppedIpv4BroadcastAddr) ∷ jump_if Jeq 0xffffffff (to_end Drop) ∷ [] in
    let sound : IsSound front =
    sound-byte Ldb 0 30 _ refl (lit< tt) (lit< tt) (sound-byte And 0 0xf0 _ refl (lit< tt) (lit< tt) (sound-count (number_of DroppedIpv4Multicast) _ (has_word DroppedIpv4Multicast) (sound-if_end Jeq 0xe0 Drop _ refl (lit< tt)
    (sound-byte Ldw 0 30 _ refl (lit< tt) (lit< tt) (sound-count (number_of DroppedIpv4BroadcastAddr) _ (has_word DroppedIpv4BroadcastAddr) (sound-if_end Jeq 0xffffffff Drop _ refl (lit< tt) sound-nil)))))) in
    fragment-then l l l 28 11 front (net_items address) (fragment-of l l 28 front sound (omega arith) tt (omega arith) (lit≤ tt)) (net_fragment l address fits)

filtered_fragment : (on : Bool) (label : ℕ) (mac : List ℕ) (address : Option Address) → (on ≡ true → IsMac mac) → (on ≡ true → IsNetInRange address) → IsFragment label (label + 1) 100 (filtered_items on label mac address)
unfolding labels
filtered_fragment true label mac address is_mac fits =
    fragment-then label (label + 1) (label + 1) 61 39 (dhcp_items label mac) (destination_items address) (dhcp_fragment label mac (is_mac refl)) (destination_fragment (label + 1) address (fits refl))
filtered_fragment false label mac address is_mac fits = fragment-of label (label + 1) 100 [] sound-nil (omega arith) tt (omega arith) (lit≤ tt)

-- ---- NAT keepalives

sound-natt : (away : ℕ) → IsSound (natt_items away)
sound-natt away =
    let dropped = count (number_of DroppedIpv4NattKeepalive) ∷ jump (to_end Drop) ∷ [] in
    let first = load Ldbx 22 ∷ jump_if Jne 0xff (targets.Label away) ∷ dropped in
    let bytes = load Ldhx 18 ∷ jump_if Jne 9 (targets.Label away) ∷ first in
    let port = header_into 1 ∷ load Ldhx 14 ∷ jump_if Jne 4500 (targets.Label away) ∷ bytes in
    let whole = load Ldh 20 ∷ jump_if Jset 0x1fff (targets.Label away) ∷ port in
    sound-byte Ldb 0 23 _ refl (lit< tt) (lit< tt) (sound-if_label Jne 17 away _ refl (lit< tt) (stands-here away whole [])
    (sound-byte Ldh 0 20 _ refl (lit< tt) (lit< tt) (sound-if_label Jset 0x1fff away _ refl (lit< tt) (stands-here away port [])
    (sound-byte Ext 1 13 _ refl (lit< tt) (lit< tt) (sound-byte Ldhx 0 14 _ refl (lit< tt) (lit< tt) (sound-if_label Jne 4500 away _ refl (lit< tt) (stands-here away bytes [])
    (sound-byte Ldhx 0 18 _ refl (lit< tt) (lit< tt) (sound-if_label Jne 9 away _ refl (lit< tt) (stands-here away first [])
    (sound-byte Ldbx 0 22 _ refl (lit< tt) (lit< tt) (sound-if_label Jne 0xff away _ refl (lit< tt) (stands-here away dropped [])
    (sound-count (number_of DroppedIpv4NattKeepalive) _ (has_word DroppedIpv4NattKeepalive) (sound-jump_end Drop _ (sound-label away [] sound-nil)))))))))))))

wide-natt : (away : ℕ) → wide_length (natt_items away) ≤ 64
wide-natt away = lit≤ tt

labels-natt : (away : ℕ) → labels (natt_items away) ≡ away ∷ []
unfolding labels
labels-natt away = refl

natt_fragment : (away : ℕ) → IsFragment away (away + 1) 64 (natt_items away)
natt_fragment away =
    fragment-of away (away + 1) 64 (natt_items away)
    (sound-natt away)
    (omega arith)
    (fresh-one away _ (labels-natt away))
    (omega (arith, ap length (labels-natt away)))
    (wide-natt away)

-- ---- all other packets

last_fragment : (on : Bool) (l : ℕ) → IsFragment l l 26 (last_items on)
unfolding labels
last_fragment true l =
    fragment-of l l 26 (last_items true)
    (sound-byte Li 0 0 _ refl (lit< tt) (lit< tt) (sound-count (number_of PassedIpv4Unicast) _ (has_word PassedIpv4Unicast) (sound-unless_end broadcast Pass _ (lit< tt) (lit≤ tt) (bytes_fit broadcast refl)
    (sound-count (number_of DroppedIpv4L2Broadcast) _ (has_word DroppedIpv4L2Broadcast) (sound-jump_end Drop [] sound-nil)))))
    (omega arith) tt (omega arith) (lit≤ tt)
last_fragment false l = fragment-of l l 26 (last_items false) (sound-count (number_of PassedIpv4) _ (has_word PassedIpv4) (sound-jump_end Pass [] sound-nil)) (omega arith) tt (omega arith) (lit≤ tt)

-- ---- the whole

module _ (basis : Basis) (from label most : ℕ) (keepalives : List Item) (x : IsFragment from label most keepalives) (is_mac : basis.state.multicast ≡ true → IsMac basis.config.mac) (fits : basis.state.multicast ≡ true → IsNetInRange basis.state.address) where
  pub packet_fragment : IsFragment from (label + 2) (100 + (most + 90)) (packet_items basis label keepalives)
  packet_fragment =
      let on = basis.state.multicast in
      let two : label + 1 + 1 ≡ label + 2 = omega arith in
      subst (λ (to : ℕ). IsFragment from to (100 + (most + 90)) (packet_items basis label keepalives)) two
      (fragment-turned from (label + 1) (label + 1 + 1) 100 (most + 90) (filtered_items on (label + 1) basis.config.mac basis.state.address) (keepalives ++ behind_items on label)
      (filtered_fragment on (label + 1) basis.config.mac basis.state.address is_mac fits)
      (fragment-then from label (label + 1) most 90 keepalives (behind_items on label) x
      (fragment-then label (label + 1) (label + 1) 64 26 (natt_items label) (last_items on) (natt_fragment label) (last_fragment on (label + 1)))))

  pub ip4_fragment : IsFragment from (label + 2 + 1) (11 + (100 + (most + 90))) (ip4_items basis label keepalives)
  ip4_fragment = over_fragment Ldh 12 0x800 from (label + 2) (100 + (most + 90)) (packet_items basis label keepalives) refl refl (lit< tt) (lit< tt) packet_fragment
