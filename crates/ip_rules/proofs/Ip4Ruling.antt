-- The items for IPv4 say what their question answers.
use Rattle.std.proofs.Common.{◌≡◌, ℕ, ◌+◌, ◌≤◌, Bool, true, false, cond, not, eqb, ltb, List, [], ◌∷◌, ◌++◌, get_or, Option, Some, None, refl, sym, ap, ◌∙◌, arith, lit<, lit≤}
use Rattle.std.specs.Prelude.{bit_and, bytes_eq}
use Rattle.apf_coding.specs.declared.instruction.Op.TheVariants.{Ldh, Ldhx, Add, Jeq, Jne, Jset}
use Rattle.apf_coding.specs.declared.machine.Verdict.{Verdict}
use Rattle.apf_coding.specs.declared.machine.Verdict.TheVariants.{Pass, Drop}
use Rattle.apf_coding.specs.Words.{word}
use Rattle.apf_coding.specs.Meaning.{State}
use Rattle.apf_asm.specs.declared.item.Item.{Item}
use Rattle.apf_asm.specs.declared.item.Target.TheVariants as targets
use Rattle.apf_asm.specs.Refusals.{stands}
use Rattle.data_counters.specs.declared.counter.Counter.{Counter}
use Rattle.data_counters.specs.declared.counter.Counter.TheVariants.{PassedDhcp, PassedIpv4, PassedIpv4Unicast, DroppedIpv4L2Broadcast, DroppedIpv4BroadcastAddr, DroppedIpv4BroadcastNet, DroppedIpv4Multicast}
use Rattle.data_counters.specs.Counters.{number_of}
use Rattle.frame_views.specs.Fields.{field, part}
use Rattle.frame_views.specs.Packets.{header_length}
use Rattle.policy_state.specs.declared.basis.Basis.{Basis}
use Rattle.policy_state.specs.declared.ruling.Ruling.{Ruling}
use Rattle.policy_state.specs.declared.ruling.Ruling.TheVariants.{Says, Silent}
use Rattle.policy_state.specs.declared.state.Address.{Address}
use Rattle.policy_state.specs.Asking.{reading, when, otherwise}
use Rattle.policy_state.specs.Ethernet.{destination, ethertype, broadcast}
use Rattle.policy_state.specs.Ip4.{protocol, fragment, destination_address, net_broadcast_of, net_broadcast, keepalive_answers, natt_keepalives, ip4_lines}
use Rattle.policy_state.specs.Policy.{ip4}
use Rattle.policy_state.proofs.AskingLaws.{otherwise-assoc, otherwise-when, reading-cond, reading-over, reading-when, when-cond}
use Rattle.policy_state.proofs.FieldsSeen.{number_seen, bytes_seen}
use Rattle.apf_asm.specs.Building.{fixed, count, jump, jump_if, jump_unless, load, to_end}
use Rattle.apf_asm.specs.Fragment.{IsPart}
use Rattle.policy_state.specs.Rulings.{said_of}
use Rattle.apf_asm.specs.Saying.{TellsSaid}
use Rattle.apf_asm.proofs.Parts.{part-yields}
use Rattle.apf_asm.proofs.Rules.{Yields, frame_bytes, done, restated, counts, places, adds, masks, recalls_0, recalls_1, reads_byte, reads_half, reads_half_at, reads_word, answers, answers_if, answers_unless, labelled, leaves_if, leaves_unless, skips_if, then_on, told}
use Rattle.policy_state.proofs.Rulings.{rulings}
use Rattle.policy_state.specs.Ranges.{IsMac}
use Rattle.ip_rules.specs.Ip4Listing.{header_into, dhcp_items, net_items, destination_items, filtered_items, natt_items, last_items, behind_items, ip4_items}
use Rattle.ip_rules.proofs.HeaderSeen.{header_slot, bytes_behind, number_behind}
use Rattle.ip_rules.proofs.NattRuling.{before_label, natt_yields}

-- ---- the rulings as the items come to them

abbrev passed_dhcp : Ruling
passed_dhcp = Says Pass PassedDhcp

abbrev client_ruling : List ℕ → List ℕ → Ruling
client_ruling mac frame = reading (part frame (50 + header_length frame) 6) (λ there. when (bytes_eq there mac) passed_dhcp)

abbrev port_ruling : List ℕ → List ℕ → Ruling
port_ruling mac frame = reading (field frame (16 + header_length frame) 2) (λ p. when (eqb p 68) (client_ruling mac frame))

abbrev fragment_ruling : List ℕ → List ℕ → Ruling
fragment_ruling mac frame = reading (fragment frame) (λ f. when (eqb (bit_and f 0x1fff) 0) (port_ruling mac frame))

abbrev dhcp_ruling : List ℕ → List ℕ → Ruling
dhcp_ruling mac frame = reading (protocol frame) (λ p. when (eqb p 17) (fragment_ruling mac frame))

abbrev net_at : Option Address → ℕ → Ruling
net_at None d = Silent
net_at (Some address) d = when (ltb address.prefix 31) (when (eqb d (net_broadcast_of address)) (Says Drop DroppedIpv4BroadcastNet))

abbrev address_ruling : Option Address → List ℕ → Ruling
address_ruling address frame = reading (destination_address frame) (λ d. cond (eqb d 0xffffffff) (Says Drop DroppedIpv4BroadcastAddr) (net_at address d))

abbrev destination_ruling : Option Address → List ℕ → Ruling
destination_ruling address frame = reading (field frame 30 1) (λ b. cond (eqb (bit_and b 0xf0) 0xe0) (Says Drop DroppedIpv4Multicast) (address_ruling address frame))

abbrev filtered_ruling : Bool → List ℕ → Option Address → List ℕ → Ruling
filtered_ruling true mac address frame = otherwise (dhcp_ruling mac frame) (destination_ruling address frame)
filtered_ruling false mac address frame = Silent

abbrev last_ruling : Bool → List ℕ → Ruling
last_ruling true frame = reading (destination frame) (λ mac. cond (not (bytes_eq mac broadcast)) (Says Pass PassedIpv4Unicast) (Says Drop DroppedIpv4L2Broadcast))
last_ruling false frame = Says Pass PassedIpv4

abbrev behind_ruling : Bool → List ℕ → Ruling
behind_ruling on frame = otherwise (natt_keepalives frame) (last_ruling on frame)

-- ---- are those of the table

net_cases : (o : Option ℕ) (small : Bool) (test : ℕ → Bool) (verdict : Verdict) (counter : Counter) (there : ℕ → Bool) (a : Ruling)
    → reading o (λ d. cond (test d) (Says verdict counter) (when small (when (there d) a)))
    ≡ otherwise (reading o (λ d. when (test d) (Says verdict counter))) (when small (reading o (λ d. when (there d) a)))
net_cases None small test verdict counter there a = refl
net_cases (Some d) true test verdict counter there a = sym (otherwise-when (test d) verdict counter _)
net_cases (Some d) false test verdict counter there a = sym (otherwise-when (test d) verdict counter _)

net_same : (address : Option Address) (frame : List ℕ)
    → address_ruling address frame ≡ otherwise (reading (destination_address frame) (λ d. when (eqb d 0xffffffff) (Says Drop DroppedIpv4BroadcastAddr))) (net_broadcast address frame)
net_same None frame = reading-cond (destination_address frame) (λ d. eqb d 0xffffffff) Drop DroppedIpv4BroadcastAddr Silent
net_same (Some address) frame = net_cases (destination_address frame) (ltb address.prefix 31) (λ d. eqb d 0xffffffff) Drop DroppedIpv4BroadcastAddr (λ d. eqb d (net_broadcast_of address)) (Says Drop DroppedIpv4BroadcastNet)

abbrev host_ruling : Option (List ℕ) → Ruling
host_ruling mac = reading mac (λ m. cond (bytes_eq m broadcast) (Says Drop DroppedIpv4L2Broadcast) (Says Pass PassedIpv4Unicast))

pub cond-not : (b : Bool) (x y : Ruling) → cond (not b) x y ≡ cond b y x
cond-not true x y = refl
cond-not false x y = refl

host_same : (mac : Option (List ℕ)) → reading mac (λ m. cond (not (bytes_eq m broadcast)) (Says Pass PassedIpv4Unicast) (Says Drop DroppedIpv4L2Broadcast)) ≡ host_ruling mac
host_same None = refl
host_same (Some m) = cond-not (bytes_eq m broadcast) _ _

-- it is never silent
host_last : (mac : Option (List ℕ)) (later : Ruling) → host_ruling mac ≡ otherwise (host_ruling mac) later
host_last None later = refl
host_last (Some m) later = go (bytes_eq m broadcast)
  where
    go : (b : Bool) → cond b (Says Drop DroppedIpv4L2Broadcast) (Says Pass PassedIpv4Unicast) ≡ otherwise (cond b (Says Drop DroppedIpv4L2Broadcast) (Says Pass PassedIpv4Unicast)) later
    go true = refl
    go false = refl

-- the lines where multicast is filtered
filtered_lines : (dhcp multicast all net answer natt host host' last : Ruling) → host' ≡ otherwise host last
    → otherwise (otherwise dhcp (otherwise multicast (otherwise all net))) (otherwise answer (otherwise natt host'))
    ≡ otherwise dhcp (otherwise multicast (otherwise all (otherwise net (otherwise answer (otherwise natt (otherwise host last))))))
filtered_lines dhcp multicast all net answer natt host host' last e = simp otherwise-assoc (ap (λ (h : Ruling). otherwise dhcp (otherwise multicast (otherwise all (otherwise net (otherwise answer (otherwise natt h)))))) e)

lines_same : (on : Bool) (mac : List ℕ) (address : Option Address) (frame : List ℕ) (answer : Ruling)
    → otherwise (filtered_ruling on mac address frame) (otherwise answer (behind_ruling on frame))
    ≡ otherwise (when on (dhcp_ruling mac frame))
    (otherwise (when on (reading (field frame 30 1) (λ b. when (eqb (bit_and b 0xf0) 0xe0) (Says Drop DroppedIpv4Multicast))))
    (otherwise (when on (reading (destination_address frame) (λ d. when (eqb d 0xffffffff) (Says Drop DroppedIpv4BroadcastAddr))))
    (otherwise (when on (net_broadcast address frame))
    (otherwise answer
    (otherwise (natt_keepalives frame)
    (otherwise (when on (host_ruling (destination frame)))
    (otherwise (Says Pass PassedIpv4) Silent)))))))
lines_same false mac address frame answer = refl
lines_same true mac address frame answer =
    ap (λ (r : Ruling). otherwise (otherwise (dhcp_ruling mac frame) r) (otherwise answer (behind_ruling true frame)))
    (reading-cond (field frame 30 1) (λ b. eqb (bit_and b 0xf0) 0xe0) Drop DroppedIpv4Multicast (address_ruling address frame)
    ∙ ap (λ (r : Ruling). otherwise (reading (field frame 30 1) (λ b. when (eqb (bit_and b 0xf0) 0xe0) (Says Drop DroppedIpv4Multicast))) r) (net_same address frame))
    ∙ filtered_lines (dhcp_ruling mac frame) _ _ (net_broadcast address frame) answer (natt_keepalives frame) (host_ruling (destination frame)) (last_ruling true frame) (Says Pass PassedIpv4)
    (host_same (destination frame) ∙ host_last (destination frame) (Says Pass PassedIpv4))

packet_same : (basis : Basis) (frame : List ℕ)
    → otherwise (filtered_ruling basis.state.multicast basis.config.mac basis.state.address frame) (otherwise (keepalive_answers basis frame) (behind_ruling basis.state.multicast frame)) ≡ ip4_lines basis frame
packet_same basis frame = lines_same basis.state.multicast basis.config.mac basis.state.address frame (keepalive_answers basis frame)

-- ---- the items come to them

module _ (n : ℕ) (frame : List ℕ) (m : State) (slot : get_or m.slots 13 0 ≡ header_length frame) (mac : List ℕ) (is_mac : IsMac mac) (away : ℕ) (le : 2 ≤ away) where
  abbrev passed_items : List Item
  passed_items = count (number_of PassedDhcp) ∷ jump (to_end Pass) ∷ []

  abbrev client_items : List Item
  client_items = header_into 0 ∷ fixed Add 0 1 50 ∷ jump_unless mac (targets.Label away) ∷ passed_items

  client_yields : (r0 r1 : ℕ) → Yields rulings n frame m r0 r1 (client_ruling mac frame) (before_label away client_items)
  unfolding stands
  client_yields r0 r1 =
      restated rulings n frame m r0 r1 _ _ _ (reading-when (part frame (50 + header_length frame) 6) (λ there. bytes_eq there mac) passed_dhcp)
      (recalls_0 rulings n frame m 1 13 (header_length frame) r0 r1 _ _ refl slot
      (adds rulings n frame m 1 50 (header_length frame) r1 _ _
      (leaves_unless rulings n frame m _ r1 away mac passed_dhcp Silent passed_items [] (part frame (50 + header_length frame) 6) (ap (λ (len : ℕ). frame_bytes frame (word (header_length frame + 50)) len) is_mac.six ∙ bytes_behind frame 50 6 (lit≤ tt)) (omega (arith, is_mac.six)) refl
      (counts rulings n frame m _ r1 PassedDhcp _ _
      (answers rulings n frame m _ Pass PassedDhcp Silent _
      (labelled rulings n frame m _ _ away Silent [] le (done rulings n frame m _ _))))
      (λ q0 q1. done rulings n frame m q0 q1))))

  abbrev port_items : List Item
  port_items = header_into 1 ∷ load Ldhx 16 ∷ jump_if Jne 68 (targets.Label away) ∷ client_items

  port_yields : (r0 r1 : ℕ) → Yields rulings n frame m r0 r1 (port_ruling mac frame) (before_label away port_items)
  unfolding stands
  port_yields r0 r1 =
      restated rulings n frame m r0 r1 _ _ _ (reading-when (field frame (16 + header_length frame) 2) (λ p. eqb p 68) (client_ruling mac frame))
      (recalls_1 rulings n frame m 1 13 (header_length frame) r0 r1 _ _ refl slot
      (reads_half_at rulings n frame m r0 (header_length frame) 1 16 _ _ (field frame (16 + header_length frame) 2) (number_behind frame 16 2 (lit≤ tt)) (λ p.
      leaves_if rulings n frame m Jne 68 away p (header_length frame) (client_ruling mac frame) Silent client_items [] refl refl
      (client_yields p (header_length frame))
      (λ q0 q1. done rulings n frame m q0 q1))))

  abbrev fragment_items : List Item
  fragment_items = load Ldh 20 ∷ jump_if Jset 0x1fff (targets.Label away) ∷ port_items

  fragment_yields : (r0 r1 : ℕ) → Yields rulings n frame m r0 r1 (fragment_ruling mac frame) (before_label away fragment_items)
  unfolding stands
  fragment_yields r0 r1 =
      restated rulings n frame m r0 r1 _ _ _ (reading-when (fragment frame) (λ f. eqb (bit_and f 0x1fff) 0) (port_ruling mac frame))
      (reads_half rulings n frame m r0 r1 1 20 _ _ (fragment frame) (number_seen frame 20 2) (λ f.
      leaves_if rulings n frame m Jset 0x1fff away f r1 (port_ruling mac frame) Silent port_items [] refl refl
      (port_yields f r1)
      (λ q0 q1. done rulings n frame m q0 q1)))

  dhcp_yields : (r0 r1 : ℕ) → Yields rulings n frame m r0 r1 (dhcp_ruling mac frame) (dhcp_items away mac)
  unfolding stands
  dhcp_yields r0 r1 =
      restated rulings n frame m r0 r1 _ _ _ (reading-when (protocol frame) (λ p. eqb p 17) (fragment_ruling mac frame))
      (reads_byte rulings n frame m r0 r1 1 23 _ _ (protocol frame) (number_seen frame 23 1) (λ p.
      leaves_if rulings n frame m Jne 17 away p r1 (fragment_ruling mac frame) Silent fragment_items [] refl refl
      (fragment_yields p r1)
      (λ q0 q1. done rulings n frame m q0 q1)))

module _ (n : ℕ) (frame : List ℕ) (m : State) where
  net_yields : (address : Option Address) (d r1 : ℕ) → Yields rulings n frame m d r1 (net_at address d) (net_items address)
  net_yields None d r1 = done rulings n frame m d r1
  net_yields (Some address) d r1 = go (ltb address.prefix 31)
    where
      go : (b : Bool) → Yields rulings n frame m d r1 (when b (when (eqb d (net_broadcast_of address)) (Says Drop DroppedIpv4BroadcastNet))) (cond b (count (number_of DroppedIpv4BroadcastNet) ∷ jump_if Jeq (net_broadcast_of address) (to_end Drop) ∷ []) [])
      go true =
          restated rulings n frame m d r1 _ _ _ (when-cond (eqb d (net_broadcast_of address)) (Says Drop DroppedIpv4BroadcastNet))
          (counts rulings n frame m d r1 DroppedIpv4BroadcastNet _ _
          (answers_if rulings n frame m Jeq (net_broadcast_of address) d Drop DroppedIpv4BroadcastNet Silent [] refl
          (done rulings n frame m d _)))
      go false = done rulings n frame m d r1

  destination_yields : (address : Option Address) (r0 r1 : ℕ) → Yields rulings n frame m r0 r1 (destination_ruling address frame) (destination_items address)
  destination_yields address r0 r1 =
      reads_byte rulings n frame m r0 r1 1 30 _ _ (field frame 30 1) (number_seen frame 30 1) (λ b.
      masks rulings n frame m 1 0xf0 b r1 _ _
      (counts rulings n frame m (bit_and b 0xf0) r1 DroppedIpv4Multicast _ _
      (answers_if rulings n frame m Jeq 0xe0 (bit_and b 0xf0) Drop DroppedIpv4Multicast _ _ refl
      (reads_word rulings n frame m (bit_and b 0xf0) _ 1 30 _ _ (destination_address frame) (number_seen frame 30 4) (λ d.
      counts rulings n frame m d _ DroppedIpv4BroadcastAddr _ _
      (answers_if rulings n frame m Jeq 0xffffffff d Drop DroppedIpv4BroadcastAddr _ _ refl
      (net_yields address d _)))))))

  last_yields : (on : Bool) (r0 r1 : ℕ) → Yields rulings n frame m r0 r1 (last_ruling on frame) (last_items on)
  last_yields true r0 r1 =
      places rulings n frame m r0 r1 1 0 _ _ (lit< tt)
      (counts rulings n frame m 0 r1 PassedIpv4Unicast _ _
      (answers_unless rulings n frame m 0 broadcast Pass PassedIpv4Unicast _ _ (destination frame) (bytes_seen frame 0 6) (lit< tt)
      (counts rulings n frame m 0 _ DroppedIpv4L2Broadcast _ _
      (answers rulings n frame m 0 Drop DroppedIpv4L2Broadcast Silent [] (done rulings n frame m 0 _)))))
  last_yields false r0 r1 = counts rulings n frame m r0 r1 PassedIpv4 _ _ (answers rulings n frame m r0 Pass PassedIpv4 Silent [] (done rulings n frame m r0 _))

  behind_yields : (on : Bool) (label r0 r1 : ℕ) → get_or m.slots 13 0 ≡ header_length frame → 2 ≤ label
      → Yields rulings n frame m r0 r1 (behind_ruling on frame) (behind_items on label)
  behind_yields on label r0 r1 slot le =
      then_on rulings n frame m r0 r1 _ _ (natt_items label) (last_items on) (natt_yields n frame m slot label le r0 r1) (last_yields on)

  filtered_yields : (on : Bool) (label : ℕ) (mac : List ℕ) (address : Option Address) (r0 r1 : ℕ) → get_or m.slots 13 0 ≡ header_length frame → 2 ≤ label → (on ≡ true → IsMac mac)
      → Yields rulings n frame m r0 r1 (filtered_ruling on mac address frame) (filtered_items on label mac address)
  filtered_yields true label mac address r0 r1 slot le is_mac =
      then_on rulings n frame m r0 r1 _ _ (dhcp_items label mac) (destination_items address) (dhcp_yields n frame m slot mac (is_mac refl) label le r0 r1) (destination_yields address)
  filtered_yields false label mac address r0 r1 slot le is_mac = done rulings n frame m r0 r1

-- the packet's items
abbrev pub packet_items : Basis → ℕ → List Item → List Item
packet_items basis label keepalives = filtered_items basis.state.multicast (label + 1) basis.config.mac basis.state.address ++ (keepalives ++ behind_items basis.state.multicast label)

pub ip4_tells : (basis : Basis) (from label most : ℕ) (keepalives : List Item) → 2 ≤ from → (basis.state.multicast ≡ true → IsMac basis.config.mac)
    → IsPart (λ age frame. said_of (keepalive_answers basis frame)) from label most keepalives
    → stands (label + 2) (packet_items basis label keepalives) ≡ false
    → TellsSaid (λ age frame. said_of (ip4 basis frame)) (ip4_items basis label keepalives)
ip4_tells basis from label most keepalives le is_mac x apart =
    let up : from ≤ label = x.form.rises in
    told rulings (λ age frame. ip4 basis frame) _ (λ n frame age m ready.
    restated rulings n frame m m.r0 m.r1 _ _ _ (ap (λ (a : Ruling). reading (ethertype frame) (λ e. cond (not (eqb e 0x800)) Silent (otherwise a Silent))) (packet_same basis frame) ∙ reading-over (ethertype frame) (λ e. eqb e 0x800) (ip4_lines basis frame))
    (reads_half rulings n frame m m.r0 m.r1 1 12 _ _ (ethertype frame) (number_seen frame 12 2) (λ e.
    skips_if rulings n frame m Jne 0x800 (label + 2) e m.r1 _ Silent (packet_items basis label keepalives) [] refl (omega arith) apart
    (then_on rulings n frame m e m.r1 _ _ _ (keepalives ++ behind_items basis.state.multicast label)
    (filtered_yields n frame m basis.state.multicast (label + 1) basis.config.mac basis.state.address e m.r1 (header_slot n frame age m ready) (omega arith) is_mac)
    (λ p0 p1. then_on rulings n frame m p0 p1 _ _ keepalives (behind_items basis.state.multicast label)
    (part-yields rulings (λ age frame. keepalive_answers basis frame) from label most keepalives le x n frame age m ready p0 p1)
    (λ q0 q1. behind_yields n frame m basis.state.multicast label q0 q1 (header_slot n frame age m ready) (omega arith))))
    (λ q0 q1. done rulings n frame m q0 q1))))
