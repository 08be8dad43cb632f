-- The counters: their numbers and names. This project's own table, after ApfFilter of Android 10.
use Rattle.std.specs.Prelude.{ℕ, ◌==◌, List, [], ◌∷◌, length, Option, codes}
use Rattle.std.specs.List.{find}
use Rattle.data_counters.specs.declared.counter.Counter.{Counter}
use Rattle.data_counters.specs.declared.counter.Counter.TheVariants.{TotalPackets, PassedArp, PassedArpNonIpv4, PassedArpUnknown, PassedArpUnicastReply, PassedDhcp, PassedIpv4, PassedIpv4Unicast, PassedIpv6NonIcmp, PassedIpv6UnicastNonIcmp, PassedIpv6Icmp, PassedNonIpUnicast, Dropped8023Frame, DroppedEthertypeDenied, DroppedEthBroadcast, DroppedArpReplySpaNoHost, DroppedGarpReply, DroppedArpOtherHost, DroppedIpv4L2Broadcast, DroppedIpv4BroadcastAddr, DroppedIpv4BroadcastNet, DroppedIpv4Multicast, DroppedIpv4KeepaliveAck, DroppedIpv6RouterSolicitation, DroppedIpv6MulticastNa, DroppedIpv6Multicast, DroppedRa, DroppedIpv4NattKeepalive}

pub record Row : Type 0 where
  pub number : ℕ
  pub name : List ℕ

abbrev pub row : ℕ → List ℕ → Row
row number name = record { number = number; name = name }

-- the table
abbrev pub row_of : Counter → Row
row_of TotalPackets = row 1 (codes "TOTAL_PACKETS")
row_of PassedArp = row 2 (codes "PASSED_ARP")
row_of PassedArpNonIpv4 = row 3 (codes "PASSED_ARP_NON_IPV4")
row_of PassedArpUnknown = row 4 (codes "PASSED_ARP_UNKNOWN")
row_of PassedArpUnicastReply = row 5 (codes "PASSED_ARP_UNICAST_REPLY")
row_of PassedDhcp = row 6 (codes "PASSED_DHCP")
row_of PassedIpv4 = row 7 (codes "PASSED_IPV4")
row_of PassedIpv4Unicast = row 8 (codes "PASSED_IPV4_UNICAST")
row_of PassedIpv6NonIcmp = row 9 (codes "PASSED_IPV6_NON_ICMP")
row_of PassedIpv6UnicastNonIcmp = row 10 (codes "PASSED_IPV6_UNICAST_NON_ICMP")
row_of PassedIpv6Icmp = row 11 (codes "PASSED_IPV6_ICMP")
row_of PassedNonIpUnicast = row 12 (codes "PASSED_NON_IP_UNICAST")
row_of Dropped8023Frame = row 13 (codes "DROPPED_802_3_FRAME")
row_of DroppedEthertypeDenied = row 14 (codes "DROPPED_ETHERTYPE_DENIED")
row_of DroppedEthBroadcast = row 15 (codes "DROPPED_ETH_BROADCAST")
row_of DroppedArpReplySpaNoHost = row 16 (codes "DROPPED_ARP_REPLY_SPA_NO_HOST")
row_of DroppedGarpReply = row 17 (codes "DROPPED_GARP_REPLY")
row_of DroppedArpOtherHost = row 18 (codes "DROPPED_ARP_OTHER_HOST")
row_of DroppedIpv4L2Broadcast = row 19 (codes "DROPPED_IPV4_L2_BROADCAST")
row_of DroppedIpv4BroadcastAddr = row 20 (codes "DROPPED_IPV4_BROADCAST_ADDR")
row_of DroppedIpv4BroadcastNet = row 21 (codes "DROPPED_IPV4_BROADCAST_NET")
row_of DroppedIpv4Multicast = row 22 (codes "DROPPED_IPV4_MULTICAST")
row_of DroppedIpv4KeepaliveAck = row 23 (codes "DROPPED_IPV4_KEEPALIVE_ACK")
row_of DroppedIpv6RouterSolicitation = row 24 (codes "DROPPED_IPV6_ROUTER_SOLICITATION")
row_of DroppedIpv6MulticastNa = row 25 (codes "DROPPED_IPV6_MULTICAST_NA")
row_of DroppedIpv6Multicast = row 26 (codes "DROPPED_IPV6_MULTICAST")
row_of DroppedRa = row 27 (codes "DROPPED_RA")
row_of DroppedIpv4NattKeepalive = row 28 (codes "DROPPED_IPV4_NATT_KEEPALIVE")

abbrev pub number_of : Counter → ℕ
number_of c = (row_of c).number

abbrev pub name_of : Counter → List ℕ
name_of c = (row_of c).name

-- all of them, by their numbers
abbrev pub all_counters : List Counter
all_counters = TotalPackets ∷ PassedArp ∷ PassedArpNonIpv4 ∷ PassedArpUnknown ∷ PassedArpUnicastReply ∷ PassedDhcp ∷ PassedIpv4 ∷ PassedIpv4Unicast ∷ PassedIpv6NonIcmp ∷ PassedIpv6UnicastNonIcmp ∷ PassedIpv6Icmp ∷ PassedNonIpUnicast ∷ Dropped8023Frame ∷ DroppedEthertypeDenied ∷ DroppedEthBroadcast ∷ DroppedArpReplySpaNoHost ∷ DroppedGarpReply ∷ DroppedArpOtherHost ∷ DroppedIpv4L2Broadcast ∷ DroppedIpv4BroadcastAddr ∷ DroppedIpv4BroadcastNet ∷ DroppedIpv4Multicast ∷ DroppedIpv4KeepaliveAck ∷ DroppedIpv6RouterSolicitation ∷ DroppedIpv6MulticastNa ∷ DroppedIpv6Multicast ∷ DroppedRa ∷ DroppedIpv4NattKeepalive ∷ []

-- how many there are
abbrev pub counter_count : ℕ
counter_count = length all_counters

-- the counter of a number
abbrev pub counter_of : ℕ → Option Counter
counter_of n = find (λ c. number_of c == n) all_counters
