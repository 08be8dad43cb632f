-- The lines of the question on IPv6, each a definition that is named for the frames that it answers. Headers are those
-- of RFC 8200 (IPv6) and RFC 4861 (neighbor discovery).
use Rattle.std.specs.Prelude.{ℕ, ◌==◌, not, if◌then◌else◌, List, [], ◌∷◌, replicate, bytes_eq, Option}
use Rattle.apf_coding.specs.declared.machine.Verdict.TheVariants.{Pass, Drop}
use Rattle.data_counters.specs.declared.counter.Counter.TheVariants.{PassedIpv6NonIcmp, PassedIpv6UnicastNonIcmp, PassedIpv6Icmp, DroppedIpv6RouterSolicitation, DroppedIpv6MulticastNa, DroppedIpv6Multicast}
use Rattle.frame_views.specs.Fields.{field, part}
use Rattle.policy_state.specs.declared.basis.Basis.{Basis}
use Rattle.policy_state.specs.declared.ruling.Ruling.{Ruling}
use Rattle.policy_state.specs.declared.ruling.Ruling.TheVariants.{Says}
use Rattle.policy_state.specs.Asking.{reading, when, first_of}
use Rattle.policy_state.specs.Records.{repeated_advertisements}

-- ---- the IPv6 header and the ICMPv6 message

abbrev pub next_header : List ℕ → Option ℕ
next_header frame = field frame 20 1

abbrev pub icmp_type : List ℕ → Option ℕ
icmp_type frame = field frame 54 1

-- ---- multicast and doze

-- by the destination address's first byte
abbrev pub by_destination : List ℕ → Ruling
by_destination frame = reading (field frame 38 1) (λ b.
    if b == 0xff then Says Drop DroppedIpv6Multicast else Says Pass PassedIpv6UnicastNonIcmp)

-- echo requests to a host that dozes
abbrev pub echo_requests : Basis → List ℕ → Ruling
echo_requests basis frame = when basis.state.doze (reading (icmp_type frame) (λ kind. when (kind == 128) (by_destination frame)))

-- packets other than ICMPv6, and such echo requests
abbrev pub ip6_multicast : Basis → List ℕ → Ruling
ip6_multicast basis frame = when basis.state.multicast
    (reading (next_header frame) (λ n. if n == 58 then echo_requests basis frame else by_destination frame))

-- ---- ICMPv6 messages

abbrev pub ip6_other_than_icmp : List ℕ → Ruling
ip6_other_than_icmp frame = reading (next_header frame) (λ n. when (not (n == 58)) (Says Pass PassedIpv6NonIcmp))

abbrev pub router_solicitations : List ℕ → Ruling
router_solicitations frame = reading (icmp_type frame) (λ kind. when (kind == 133) (Says Drop DroppedIpv6RouterSolicitation))

-- ff02::/120, the groups of a link whose number has one byte: all nodes, ff02::1, and others (RFC 4291, section 2.7.1)
abbrev pub link_groups : List ℕ
link_groups = 0xff ∷ 0x02 ∷ replicate 13 0

abbrev pub advertisements_to_link_groups : List ℕ → Ruling
advertisements_to_link_groups frame = reading (icmp_type frame) (λ kind. when (kind == 136)
    (reading (part frame 38 15) (λ group. when (bytes_eq group link_groups) (Says Drop DroppedIpv6MulticastNa))))

-- ---- the lines in order

-- what is asked of the headers alone, whatever was advertised before
abbrev pub ip6_header_lines : Basis → List ℕ → Ruling
ip6_header_lines basis frame = first_of (
    ip6_multicast basis frame
    ∷ ip6_other_than_icmp frame
    ∷ router_solicitations frame
    ∷ advertisements_to_link_groups frame
    ∷ [])

-- every other ICMPv6 message
abbrev pub other_icmp6 : Ruling
other_icmp6 = Says Pass PassedIpv6Icmp

abbrev pub ip6_lines : Basis → ℕ → List ℕ → Ruling
ip6_lines basis age frame = first_of (ip6_header_lines basis frame ∷ repeated_advertisements basis age frame ∷ other_icmp6 ∷ [])
