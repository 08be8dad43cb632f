-- Each answer has a counter of its verdict.
use Rattle.std.proofs.Common.{◌≡◌, ◌≢◌, ℕ, ◌≤◌, Bool, true, false, not, eqb, List, [], ◌∷◌, length, Option, Some, None, refl, sym, ap, subst, ◌∙◌, lit≤}
use Rattle.std.proofs.lemmas.Bool.{eqb-true, ltb-false}
use Rattle.std.specs.Prelude.{◌+◌, ◌/◌, bit_and, is_some, nat_lt, nat_le, map, ◌&&◌, bytes_eq, if◌then◌else◌}
use Rattle.apf_coding.specs.declared.machine.Verdict.{Verdict}
use Rattle.apf_coding.specs.declared.machine.Verdict.TheVariants.{Pass, Drop}
use Rattle.data_counters.specs.declared.counter.Counter.{Counter}
use Rattle.data_counters.specs.declared.counter.Counter.TheVariants.{PassedDhcp, PassedIpv4Unicast, DroppedIpv4L2Broadcast, DroppedIpv4BroadcastAddr, DroppedIpv4BroadcastNet, DroppedIpv4Multicast, DroppedIpv4KeepaliveAck, DroppedIpv4NattKeepalive, PassedArp, PassedArpNonIpv4, PassedArpUnknown, PassedArpUnicastReply, PassedIpv4, PassedIpv6NonIcmp, PassedIpv6UnicastNonIcmp, PassedIpv6Icmp, PassedNonIpUnicast, Dropped8023Frame, DroppedEthertypeDenied, DroppedEthBroadcast, DroppedArpReplySpaNoHost, DroppedGarpReply, DroppedArpOtherHost, DroppedRa, DroppedIpv6RouterSolicitation, DroppedIpv6MulticastNa, DroppedIpv6Multicast}
use Rattle.data_counters.specs.Counters.{number_of, counter_count}
use Rattle.policy_state.specs.declared.basis.Basis.{Basis}
use Rattle.policy_state.specs.declared.basis.Chosen.{Chosen}
use Rattle.policy_state.specs.declared.state.Address.{Address}
use Rattle.policy_state.specs.declared.ruling.Ruling.{Ruling}
use Rattle.policy_state.specs.declared.ruling.Ruling.TheVariants as rulings
use Rattle.policy_state.specs.Asking.{reading, when, otherwise, first_of}
use Rattle.frame_views.specs.Fields.{field, part}
use Rattle.policy_state.specs.Ethernet.{destination, ethertype, broadcast}
use Rattle.frame_views.specs.Packets.{header_length}
use Rattle.policy_state.specs.declared.state.Keepalive.{Keepalive}
use Rattle.policy_state.specs.Ip4.{protocol, destination_address, fragment, dhcp, ip4_multicast, ip4_broadcast, net_broadcast_of, net_broadcast, ends_of, opening_of, slot_answer, keepalive_answers, natt_keepalives, ip4_to_this_host, ip4_lines}
use Rattle.ra_records.specs.Advert.{same}
use Rattle.std.specs.List.{list_all, list_any}
use Rattle.policy_state.specs.Records.{lasts, advertised_again}
use Rattle.policy_state.specs.Policy.{is_denied, frames_802_3, denied_types, link, for_other_addresses, unknown_operations, replies_of_no_host, unicast_replies, arp_opening, arp_operation, arp_sender, arp_target, gratuitous_arp, arp_for_other_hosts, arp, ip4, ip6, others, questions, arp_lines}
use Rattle.policy_state.specs.Ip6.{next_header, icmp_type, by_destination, echo_requests, ip6_multicast, ip6_other_than_icmp, router_solicitations, link_groups, advertisements_to_link_groups, ip6_header_lines}
use Rattle.policy_state.specs.Whole.{Short, Says, fate_of, policy}

-- ---- a counter of a verdict

abbrev least : Verdict → ℕ
least Pass = 2
least Drop = 13

abbrev most : Verdict → ℕ
most Pass = 12
most Drop = counter_count

pub record Tells (verdict : Verdict) (counter : Counter) : Type 0 where
  pub least : least verdict ≤ number_of counter
  pub most : number_of counter ≤ most verdict

-- where it is an answer, its counter is one of its verdict
pub record IsTold (answer : Ruling) : Type 0 where
  pub told : (verdict : Verdict) (counter : Counter) → answer ≡ rulings.Says verdict counter → Tells verdict counter

told_missing : IsTold rulings.Missing
told_missing = record { told = λ v c e. absurd cc }

told_silent : IsTold rulings.Silent
told_silent = record { told = λ v c e. absurd cc }

told_says : (verdict : Verdict) (counter : Counter) → Tells verdict counter → IsTold (rulings.Says verdict counter)
told_says verdict counter t = record {
  told = λ v c e. let same_verdict : verdict ≡ v = cc in let same_counter : counter ≡ c = cc in
      subst (λ (d : Counter). Tells v d) same_counter (subst (λ (w : Verdict). Tells w counter) same_verdict t);
}

-- ---- the words of the policy

told_reading : {A : Type 0} (o : Option A) (next : A → Ruling) → ((v : A) → IsTold (next v)) → IsTold (reading o next)
told_reading None next told = told_missing
told_reading (Some v) next told = told v

told_when : (test : Bool) (answer : Ruling) → IsTold answer → IsTold (when test answer)
told_when true answer told = told
told_when false answer told = told_silent

told_if : (test : Bool) (answer other : Ruling) → IsTold answer → IsTold other → IsTold (if test then answer else other)
told_if true answer other told too = told
told_if false answer other told too = too

told_otherwise : (first later : Ruling) → IsTold first → IsTold later → IsTold (otherwise first later)
told_otherwise rulings.Missing later told other = told
told_otherwise rulings.Silent later told other = other
told_otherwise (rulings.Says v c) later told other = told

-- ---- the questions

told_802_3 : (basis : Basis) (frame : List ℕ) → IsTold (frames_802_3 basis frame)
told_802_3 basis frame = told_when basis.config.drop_802_3 _ (told_reading (ethertype frame) _ (λ e. told_when (nat_lt e 0x600) _ (told_says Drop Dropped8023Frame (record { least = lit≤ tt; most = lit≤ tt }))))

told_denied : (basis : Basis) (frame : List ℕ) → IsTold (denied_types basis frame)
told_denied basis frame = told_reading (ethertype frame) _ (λ e. told_when (is_denied basis.config.deny e) _ (told_says Drop DroppedEthertypeDenied (record { least = lit≤ tt; most = lit≤ tt })))

told_link : (basis : Basis) (frame : List ℕ) → IsTold (link basis frame)
told_link basis frame = told_otherwise _ _ (told_802_3 basis frame) (told_otherwise _ _ (told_denied basis frame) told_silent)

told_other_addresses : (frame : List ℕ) → IsTold (for_other_addresses frame)
told_other_addresses frame = told_reading (part frame 14 6) _ (λ o. told_when (not (bytes_eq o arp_opening)) _ (told_says Pass PassedArpNonIpv4 (record { least = lit≤ tt; most = lit≤ tt })))

told_unknown : (frame : List ℕ) → IsTold (unknown_operations frame)
told_unknown frame = told_reading (arp_operation frame) _ (λ op. told_when (not (eqb op 1) && not (eqb op 2)) _ (told_says Pass PassedArpUnknown (record { least = lit≤ tt; most = lit≤ tt })))

told_no_host : (frame : List ℕ) → IsTold (replies_of_no_host frame)
told_no_host frame = told_reading (arp_operation frame) _ (λ op. told_when (eqb op 2) _ (told_reading (arp_sender frame) _ (λ s. told_when (eqb s 0) _ (told_says Drop DroppedArpReplySpaNoHost (record { least = lit≤ tt; most = lit≤ tt })))))

told_unicast : (frame : List ℕ) → IsTold (unicast_replies frame)
told_unicast frame = told_reading (arp_operation frame) _ (λ op. told_when (eqb op 2) _ (told_reading (destination frame) _ (λ m. told_when (not (bytes_eq m broadcast)) _ (told_says Pass PassedArpUnicastReply (record { least = lit≤ tt; most = lit≤ tt })))))

told_gratuitous : (address : Option Address) (frame : List ℕ) → IsTold (gratuitous_arp address frame)
told_gratuitous None frame = told_reading (arp_target frame) _ (λ t. told_when (eqb t 0) _ (told_says Drop DroppedGarpReply (record { least = lit≤ tt; most = lit≤ tt })))
told_gratuitous (Some address) frame = told_silent

told_other_hosts : (address : Option Address) (frame : List ℕ) → IsTold (arp_for_other_hosts address frame)
told_other_hosts None frame = told_silent
told_other_hosts (Some address) frame = told_reading (arp_target frame) _ (λ t. told_when (not (eqb t address.ip)) _ (told_says Drop DroppedArpOtherHost (record { least = lit≤ tt; most = lit≤ tt })))

told_arp : (basis : Basis) (frame : List ℕ) → IsTold (arp basis frame)
told_arp basis frame = told_reading (ethertype frame) _ (λ e. told_when (eqb e 0x806) _
    (told_otherwise _ _ (told_other_addresses frame)
    (told_otherwise _ _ (told_unknown frame)
    (told_otherwise _ _ (told_no_host frame)
    (told_otherwise _ _ (told_unicast frame)
    (told_otherwise _ _ (told_gratuitous basis.state.address frame)
    (told_otherwise _ _ (told_other_hosts basis.state.address frame)
    (told_otherwise _ _ (told_says Pass PassedArp (record { least = lit≤ tt; most = lit≤ tt })) told_silent))))))))

told_dhcp : (basis : Basis) (frame : List ℕ) → IsTold (dhcp basis frame)
told_dhcp basis frame =
    told_when basis.state.multicast _
    (told_reading (protocol frame) _ (λ p. told_when (eqb p 17) _
    (told_reading (fragment frame) _ (λ f. told_when (eqb (bit_and f 0x1fff) 0) _
    (told_reading (field frame (16 + header_length frame) 2) _ (λ port. told_when (eqb port 68) _
    (told_reading (part frame (50 + header_length frame) 6) _ (λ client. told_when (bytes_eq client basis.config.mac) _
    (told_says Pass PassedDhcp (record { least = lit≤ tt; most = lit≤ tt }))))))))))

told_multicast : (basis : Basis) (frame : List ℕ) → IsTold (ip4_multicast basis frame)
told_multicast basis frame = told_when basis.state.multicast _ (told_reading (field frame 30 1) _ (λ b. told_when (eqb (bit_and b 0xf0) 0xe0) _ (told_says Drop DroppedIpv4Multicast (record { least = lit≤ tt; most = lit≤ tt }))))

told_broadcast : (basis : Basis) (frame : List ℕ) → IsTold (ip4_broadcast basis frame)
told_broadcast basis frame = told_when basis.state.multicast _ (told_reading (destination_address frame) _ (λ d. told_when (eqb d 0xffffffff) _ (told_says Drop DroppedIpv4BroadcastAddr (record { least = lit≤ tt; most = lit≤ tt }))))

told_net : (address : Option Address) (frame : List ℕ) → IsTold (net_broadcast address frame)
told_net None frame = told_silent
told_net (Some address) frame = told_when (nat_lt address.prefix 31) _ (told_reading (destination_address frame) _ (λ d. told_when (eqb d (net_broadcast_of address)) _ (told_says Drop DroppedIpv4BroadcastNet (record { least = lit≤ tt; most = lit≤ tt }))))

told_slot : (frame : List ℕ) (slot : Option Keepalive) → IsTold (slot_answer frame slot)
told_slot frame None = told_silent
told_slot frame (Some sent) =
    told_reading (part frame 26 8) _ (λ ends. told_when (bytes_eq ends (ends_of sent)) _
    (told_reading (field frame 16 2) _ (λ total. told_reading (field frame (26 + header_length frame) 1) _ (λ size. told_when (eqb (header_length frame + size / 4) total) _
    (told_reading (part frame (14 + header_length frame) 12) _ (λ opening. told_when (bytes_eq opening (opening_of sent)) _
    (told_says Drop DroppedIpv4KeepaliveAck (record { least = lit≤ tt; most = lit≤ tt }))))))))

told_slots : (frame : List ℕ) (slots : List (Option Keepalive)) → IsTold (first_of (map (slot_answer frame) slots))
told_slots frame [] = told_silent
told_slots frame (slot ∷ slots) = told_otherwise _ _ (told_slot frame slot) (told_slots frame slots)

told_keepalives : (basis : Basis) (frame : List ℕ) → IsTold (keepalive_answers basis frame)
told_keepalives basis frame = told_when (list_any is_some basis.state.keepalives) _ (told_reading (protocol frame) _ (λ p. told_when (eqb p 6) _ (told_slots frame basis.state.keepalives)))

told_natt : (frame : List ℕ) → IsTold (natt_keepalives frame)
told_natt frame =
    told_reading (protocol frame) _ (λ p. told_when (eqb p 17) _
    (told_reading (fragment frame) _ (λ f. told_when (eqb (bit_and f 0x1fff) 0) _
    (told_reading (field frame (14 + header_length frame) 2) _ (λ port. told_when (eqb port 4500) _
    (told_reading (field frame (18 + header_length frame) 2) _ (λ bytes. told_when (eqb bytes 9) _
    (told_reading (field frame (22 + header_length frame) 1) _ (λ first. told_when (eqb first 0xff) _
    (told_says Drop DroppedIpv4NattKeepalive (record { least = lit≤ tt; most = lit≤ tt })))))))))))

told_this_host : (basis : Basis) (frame : List ℕ) → IsTold (ip4_to_this_host basis frame)
told_this_host basis frame = told_when basis.state.multicast _ (told_reading (destination frame) _ (λ m.
    told_if (bytes_eq m broadcast) _ _ (told_says Drop DroppedIpv4L2Broadcast (record { least = lit≤ tt; most = lit≤ tt })) (told_says Pass PassedIpv4Unicast (record { least = lit≤ tt; most = lit≤ tt }))))

told_ip4 : (basis : Basis) (frame : List ℕ) → IsTold (ip4 basis frame)
told_ip4 basis frame = told_reading (ethertype frame) _ (λ e. told_when (eqb e 0x800) _
    (told_otherwise _ _ (told_dhcp basis frame)
    (told_otherwise _ _ (told_multicast basis frame)
    (told_otherwise _ _ (told_broadcast basis frame)
    (told_otherwise _ _ (told_when basis.state.multicast _ (told_net basis.state.address frame))
    (told_otherwise _ _ (told_keepalives basis frame)
    (told_otherwise _ _ (told_natt frame)
    (told_otherwise _ _ (told_this_host basis frame)
    (told_otherwise _ _ (told_says Pass PassedIpv4 (record { least = lit≤ tt; most = lit≤ tt })) told_silent)))))))))

told_by_destination : (frame : List ℕ) → IsTold (by_destination frame)
told_by_destination frame = told_reading (field frame 38 1) _ (λ b. told_if (eqb b 0xff) _ _ (told_says Drop DroppedIpv6Multicast (record { least = lit≤ tt; most = lit≤ tt })) (told_says Pass PassedIpv6UnicastNonIcmp (record { least = lit≤ tt; most = lit≤ tt })))

told_echo_requests : (basis : Basis) (frame : List ℕ) → IsTold (echo_requests basis frame)
told_echo_requests basis frame = told_when basis.state.doze _ (told_reading (icmp_type frame) _ (λ kind. told_when (eqb kind 128) _ (told_by_destination frame)))

told_ip6_multicast : (basis : Basis) (frame : List ℕ) → IsTold (ip6_multicast basis frame)
told_ip6_multicast basis frame = told_when basis.state.multicast _ (told_reading (next_header frame) _ (λ n. told_if (eqb n 58) _ _ (told_echo_requests basis frame) (told_by_destination frame)))

told_other_than_icmp : (frame : List ℕ) → IsTold (ip6_other_than_icmp frame)
told_other_than_icmp frame = told_reading (next_header frame) _ (λ n. told_when (not (eqb n 58)) _ (told_says Pass PassedIpv6NonIcmp (record { least = lit≤ tt; most = lit≤ tt })))

told_solicitations : (frame : List ℕ) → IsTold (router_solicitations frame)
told_solicitations frame = told_reading (icmp_type frame) _ (λ kind. told_when (eqb kind 133) _ (told_says Drop DroppedIpv6RouterSolicitation (record { least = lit≤ tt; most = lit≤ tt })))

told_advertisements : (frame : List ℕ) → IsTold (advertisements_to_link_groups frame)
told_advertisements frame = told_reading (icmp_type frame) _ (λ kind. told_when (eqb kind 136) _
    (told_reading (part frame 38 15) _ (λ d. told_when (bytes_eq d link_groups) _ (told_says Drop DroppedIpv6MulticastNa (record { least = lit≤ tt; most = lit≤ tt })))))

told_header_lines : (basis : Basis) (frame : List ℕ) → IsTold (ip6_header_lines basis frame)
told_header_lines basis frame =
    told_otherwise _ _ (told_ip6_multicast basis frame)
    (told_otherwise _ _ (told_other_than_icmp frame)
    (told_otherwise _ _ (told_solicitations frame)
    (told_otherwise _ _ (told_advertisements frame) told_silent)))

told_record : (chosen : Chosen) (age : ℕ) (frame : List ℕ) → IsTold (advertised_again chosen age frame)
told_record chosen age frame = told_when (nat_le age chosen.hold && (same chosen.advert frame && list_all (lasts chosen.hold frame) chosen.advert.lifetimes)) _ (told_says Drop DroppedRa (record { least = lit≤ tt; most = lit≤ tt }))

told_records : (chosen : List Chosen) (age : ℕ) (frame : List ℕ) → IsTold (first_of (map (λ one. advertised_again one age frame) chosen))
told_records [] age frame = told_silent
told_records (one ∷ chosen) age frame = told_otherwise _ _ (told_record one age frame) (told_records chosen age frame)

told_ip6 : (basis : Basis) (age : ℕ) (frame : List ℕ) → IsTold (ip6 basis age frame)
told_ip6 basis age frame = told_reading (ethertype frame) _ (λ e. told_when (eqb e 0x86dd) _
    (told_otherwise _ _ (told_header_lines basis frame)
    (told_otherwise _ _ (told_records basis.chosen age frame)
    (told_otherwise _ _ (told_says Pass PassedIpv6Icmp (record { least = lit≤ tt; most = lit≤ tt })) told_silent))))

told_others : (frame : List ℕ) → IsTold (others frame)
told_others frame = told_reading (destination frame) _ (λ m. told_if (bytes_eq m broadcast) _ _ (told_says Drop DroppedEthBroadcast (record { least = lit≤ tt; most = lit≤ tt })) (told_says Pass PassedNonIpUnicast (record { least = lit≤ tt; most = lit≤ tt })))

told_questions : (basis : Basis) (age : ℕ) (frame : List ℕ) → IsTold (first_of (questions basis age frame))
told_questions basis age frame =
    told_otherwise _ _ (told_link basis frame)
    (told_otherwise _ _ (told_arp basis frame)
    (told_otherwise _ _ (told_ip4 basis frame)
    (told_otherwise _ _ (told_ip6 basis age frame)
    (told_otherwise _ _ (told_others frame) told_silent))))

-- ---- whole frames

told_fate : (answer : Ruling) (verdict : Verdict) (counter : Counter) → IsTold answer → fate_of answer ≡ Says verdict counter → Tells verdict counter
told_fate rulings.Missing verdict counter told e = absurd cc
told_fate rulings.Silent verdict counter told e = absurd cc
told_fate (rulings.Says v c) verdict counter told e = told.told verdict counter cc

told_whole : (long : Bool) (answer : Ruling) (verdict : Verdict) (counter : Counter) → IsTold answer → (if long then fate_of answer else Short) ≡ Says verdict counter → Tells verdict counter
told_whole true answer verdict counter told e = told_fate answer verdict counter told e
told_whole false answer verdict counter told e = absurd cc

pub policy-tells : (basis : Basis) (age : ℕ) (frame : List ℕ) (verdict : Verdict) (counter : Counter) → policy basis age frame ≡ Says verdict counter → Tells verdict counter
policy-tells basis age frame verdict counter e = told_whole (nat_lt 14 (length frame)) (first_of (questions basis age frame)) verdict counter (told_questions basis age frame) e

-- ---- the last line on IPv4, and the last question

later_answers : (first later : Ruling) → later ≢ rulings.Silent → otherwise first later ≢ rulings.Silent
later_answers rulings.Missing later answers e = absurd cc
later_answers rulings.Silent later answers e = answers e
later_answers (rulings.Says v c) later answers e = absurd cc

ip4_lines-answer : (basis : Basis) (frame : List ℕ) → ip4_lines basis frame ≢ rulings.Silent
ip4_lines-answer basis frame =
    later_answers (dhcp basis frame) _
    (later_answers (ip4_multicast basis frame) _
    (later_answers (ip4_broadcast basis frame) _
    (later_answers (when basis.state.multicast (net_broadcast basis.state.address frame)) _
    (later_answers (keepalive_answers basis frame) _
    (later_answers (natt_keepalives frame) _
    (later_answers (ip4_to_this_host basis frame) _ (λ e. absurd cc)))))))

pub ip4-answers : (basis : Basis) (frame : List ℕ) → ethertype frame ≡ Some 0x800 → ip4 basis frame ≢ rulings.Silent
ip4-answers basis frame e silent =
    ip4_lines-answer basis frame (sym (ap (λ (o : Option ℕ). reading o (λ t. when (eqb t 0x800) (ip4_lines basis frame))) e) ∙ silent)

other_test : (t : Bool) (type e : ℕ) (a : Ruling) → eqb e type ≡ t → e ≢ type → when t a ≡ rulings.Silent
other_test true type e a is other = absurd (other (eqb-true e type is))
other_test false type e a is other = refl

-- a question on frames of one ethertype is silent on the others
pub other-silent : (frame : List ℕ) (type e : ℕ) (a : Ruling) → ethertype frame ≡ Some e → e ≢ type → reading (ethertype frame) (λ t. when (eqb t type) a) ≡ rulings.Silent
other-silent frame type e a there other = ap (λ (o : Option ℕ). reading o (λ t. when (eqb t type) a)) there ∙ other_test (eqb e type) type e a refl other

arp_lines-answer : (basis : Basis) (frame : List ℕ) → arp_lines basis frame ≢ rulings.Silent
arp_lines-answer basis frame =
    later_answers (for_other_addresses frame) _
    (later_answers (unknown_operations frame) _
    (later_answers (replies_of_no_host frame) _
    (later_answers (unicast_replies frame) _
    (later_answers (gratuitous_arp basis.state.address frame) _
    (later_answers (arp_for_other_hosts basis.state.address frame) _ (λ e. absurd cc))))))

pub arp-answers : (basis : Basis) (frame : List ℕ) → ethertype frame ≡ Some 0x806 → arp basis frame ≢ rulings.Silent
arp-answers basis frame e silent =
    arp_lines-answer basis frame (sym (ap (λ (o : Option ℕ). reading o (λ t. when (eqb t 0x806) (arp_lines basis frame))) e) ∙ silent)

others_answer : (mac : Option (List ℕ)) → otherwise (reading mac (λ m. if bytes_eq m broadcast then rulings.Says Drop DroppedEthBroadcast else rulings.Says Pass PassedNonIpUnicast)) rulings.Silent ≢ rulings.Silent
others_answer None e = absurd cc
others_answer (Some m) e = go (bytes_eq m broadcast) e
  where
    go : (b : Bool) → otherwise (if b then rulings.Says Drop DroppedEthBroadcast else rulings.Says Pass PassedNonIpUnicast) rulings.Silent ≡ rulings.Silent → ⊥
    go true e = absurd cc
    go false e = absurd cc

pub questions-answer : (basis : Basis) (age : ℕ) (frame : List ℕ) → first_of (questions basis age frame) ≢ rulings.Silent
questions-answer basis age frame =
    later_answers (link basis frame) _ (later_answers (arp basis frame) _ (later_answers (ip4 basis frame) _ (later_answers (ip6 basis age frame) _ (others_answer (destination frame)))))

short_fate : (long : Bool) (answer : Ruling) → (if long then fate_of answer else Short) ≡ Short → long ≡ false
short_fate false answer e = refl
short_fate true rulings.Missing e = absurd cc
short_fate true rulings.Silent e = absurd cc
short_fate true (rulings.Says v c) e = absurd cc

pub policy-short : (basis : Basis) (age : ℕ) (frame : List ℕ) → policy basis age frame ≡ Short → length frame ≤ 14
policy-short basis age frame e = ltb-false 14 (length frame) (short_fate (nat_lt 14 (length frame)) (first_of (questions basis age frame)) e)
