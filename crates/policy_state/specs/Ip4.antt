-- The lines of the question on IPv4, each a definition that is named for the frames that it answers. Headers are those
-- of RFC 791 (IPv4), RFC 768 (UDP), RFC 2131 (DHCP) and RFC 9293 (TCP).
use Rattle.std.specs.Prelude.{ℕ, ◌+◌, ◌-◌, ◌/◌, ◌%◌, ◌^◌, ◌==◌, nat_lt, if◌then◌else◌, bit_and, bit_or, List, [], ◌∷◌, ◌++◌, map, bytes_eq, Option, Some, None, is_some}
use Rattle.std.specs.List.{list_any}
use Rattle.std.specs.Int.{w16, w32, to_be_bytes}
use Rattle.apf_coding.specs.declared.machine.Verdict.TheVariants.{Pass, Drop}
use Rattle.data_counters.specs.declared.counter.Counter.TheVariants.{PassedDhcp, PassedIpv4, PassedIpv4Unicast, DroppedIpv4L2Broadcast, DroppedIpv4BroadcastAddr, DroppedIpv4BroadcastNet, DroppedIpv4Multicast, DroppedIpv4KeepaliveAck, DroppedIpv4NattKeepalive}
use Rattle.frame_views.specs.Fields.{field, part}
use Rattle.frame_views.specs.Packets.{header_length}
use Rattle.policy_state.specs.declared.basis.Basis.{Basis}
use Rattle.policy_state.specs.declared.state.Address.{Address}
use Rattle.policy_state.specs.declared.state.Keepalive.{Keepalive}
use Rattle.policy_state.specs.declared.ruling.Ruling.{Ruling}
use Rattle.policy_state.specs.declared.ruling.Ruling.TheVariants.{Says, Silent}
use Rattle.policy_state.specs.Asking.{reading, when, first_of}
use Rattle.policy_state.specs.Ethernet.{destination, broadcast}

-- ---- the IPv4 header

abbrev pub protocol : List ℕ → Option ℕ
protocol frame = field frame 23 1

abbrev pub destination_address : List ℕ → Option ℕ
destination_address frame = field frame 30 4

-- ---- DHCP to this host

-- the number of 2 bytes that has the fragment's offset in its low 13 bits
abbrev pub fragment : List ℕ → Option ℕ
fragment frame = field frame 20 2

abbrev pub dhcp : Basis → List ℕ → Ruling
dhcp basis frame = when basis.state.multicast
    (reading (protocol frame) (λ p. when (p == 17)
    (reading (fragment frame) (λ f. when (bit_and f 0x1fff == 0)
    (reading (field frame (16 + header_length frame) 2) (λ port. when (port == 68)
    (reading (part frame (50 + header_length frame) 6) (λ client. when (bytes_eq client basis.config.mac)
    (Says Pass PassedDhcp)))))))))

-- ---- multicast and broadcast

abbrev pub ip4_multicast : Basis → List ℕ → Ruling
ip4_multicast basis frame = when basis.state.multicast
    (reading (field frame 30 1) (λ b. when (bit_and b 0xf0 == 0xe0) (Says Drop DroppedIpv4Multicast)))

abbrev pub ip4_broadcast : Basis → List ℕ → Ruling
ip4_broadcast basis frame = when basis.state.multicast
    (reading (destination_address frame) (λ d. when (d == 0xffffffff) (Says Drop DroppedIpv4BroadcastAddr)))

-- the address with all bits after the prefix set
abbrev pub net_broadcast_of : Address → ℕ
net_broadcast_of address = bit_or address.ip (2 ^ (32 - address.prefix) - 1)

abbrev pub net_broadcast : Option Address → List ℕ → Ruling
net_broadcast None frame = Silent
net_broadcast (Some address) frame = when (nat_lt address.prefix 31)
    (reading (destination_address frame) (λ d. when (d == net_broadcast_of address) (Says Drop DroppedIpv4BroadcastNet)))

abbrev pub ip4_net_broadcast : Basis → List ℕ → Ruling
ip4_net_broadcast basis frame = when basis.state.multicast (net_broadcast basis.state.address frame)

-- ---- answers to keepalives

-- from the remote address to the local one
abbrev pub ends_of : Keepalive → List ℕ
ends_of sent = to_be_bytes w32 sent.remote ++ to_be_bytes w32 sent.local

-- the ports, then what the remote end acknowledged to have sent last, and the byte after the one that was sent
abbrev pub opening_of : Keepalive → List ℕ
opening_of sent = to_be_bytes w16 sent.remote_port ++ to_be_bytes w16 sent.local_port ++ to_be_bytes w32 sent.acknowledgement ++ to_be_bytes w32 ((sent.sequence + 1) % 2 ^ 32)

-- a segment of no bytes answers a keepalive: the total length is that of the IPv4 header and of the TCP header
abbrev pub keepalive_answer : List ℕ → Keepalive → Ruling
keepalive_answer frame sent =
    reading (part frame 26 8) (λ ends. when (bytes_eq ends (ends_of sent))
    (reading (field frame 16 2) (λ total. reading (field frame (26 + header_length frame) 1) (λ size. when (header_length frame + size / 4 == total)
    (reading (part frame (14 + header_length frame) 12) (λ opening. when (bytes_eq opening (opening_of sent))
    (Says Drop DroppedIpv4KeepaliveAck)))))))

abbrev pub slot_answer : List ℕ → Option Keepalive → Ruling
slot_answer frame None = Silent
slot_answer frame (Some sent) = keepalive_answer frame sent

abbrev pub keepalive_answers : Basis → List ℕ → Ruling
keepalive_answers basis frame = when (list_any is_some basis.state.keepalives)
    (reading (protocol frame) (λ p. when (p == 6) (first_of (map (slot_answer frame) basis.state.keepalives))))

-- ---- NAT keepalives over UDP (RFC 3948, section 2.3): one byte of data, 0xff, from port 4500 (section 2)

abbrev pub natt_keepalives : List ℕ → Ruling
natt_keepalives frame =
    reading (protocol frame) (λ p. when (p == 17)
    (reading (fragment frame) (λ f. when (bit_and f 0x1fff == 0)
    (reading (field frame (14 + header_length frame) 2) (λ port. when (port == 4500)
    (reading (field frame (18 + header_length frame) 2) (λ bytes. when (bytes == 9)
    (reading (field frame (22 + header_length frame) 1) (λ first. when (first == 0xff)
    (Says Drop DroppedIpv4NattKeepalive))))))))))

-- ---- all other packets

abbrev pub ip4_to_this_host : Basis → List ℕ → Ruling
ip4_to_this_host basis frame = when basis.state.multicast (reading (destination frame) (λ mac.
    if bytes_eq mac broadcast then Says Drop DroppedIpv4L2Broadcast else Says Pass PassedIpv4Unicast))

abbrev pub ip4_lines : Basis → List ℕ → Ruling
ip4_lines basis frame = first_of (
    dhcp basis frame
    ∷ ip4_multicast basis frame
    ∷ ip4_broadcast basis frame
    ∷ ip4_net_broadcast basis frame
    ∷ keepalive_answers basis frame
    ∷ natt_keepalives frame
    ∷ ip4_to_this_host basis frame
    ∷ Says Pass PassedIpv4
    ∷ [])
