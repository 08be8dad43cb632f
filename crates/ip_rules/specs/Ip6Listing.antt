-- The items of the rule for IPv6. Headers are those of RFC 8200 (IPv6) and RFC 4861 (neighbor discovery).
use Rattle.std.specs.Prelude.{ℕ, ◌+◌, Bool, true, false, List, [], ◌∷◌, ◌++◌}
use Rattle.apf_coding.specs.declared.instruction.Op.TheVariants.{Ldb, Jeq, Jne}
use Rattle.apf_coding.specs.declared.machine.Verdict.TheVariants.{Pass, Drop}
use Rattle.apf_asm.specs.declared.item.Item.{Item}
use Rattle.apf_asm.specs.declared.item.Item.TheVariants as items
use Rattle.apf_asm.specs.declared.item.Target.TheVariants as targets
use Rattle.data_counters.specs.declared.counter.Counter.TheVariants.{PassedIpv6NonIcmp, PassedIpv6UnicastNonIcmp, DroppedIpv6RouterSolicitation, DroppedIpv6MulticastNa, DroppedIpv6Multicast}
use Rattle.data_counters.specs.Counters.{number_of}
use Rattle.policy_state.specs.declared.basis.Basis.{Basis}
use Rattle.policy_state.specs.Ip6.{link_groups}
use Rattle.apf_asm.specs.Building.{to_end, load, place, count, jump_if, jump, jump_unless}

-- whether a packet is multicast
abbrev pub destination_items : List Item
destination_items =
    count (number_of DroppedIpv6Multicast) ∷ load Ldb 38 ∷ jump_if Jeq 0xff (to_end Drop)
    ∷ count (number_of PassedIpv6UnicastNonIcmp) ∷ jump (to_end Pass)
    ∷ []

-- to whom a neighbor advertisement goes
abbrev pub advertisement_items : ℕ → List Item
advertisement_items over =
    place 38 ∷ count (number_of DroppedIpv6MulticastNa) ∷ jump_unless link_groups (targets.Label over) ∷ jump (to_end Drop)
    ∷ []

-- ICMPv6 messages; those that aren't answered go over what is asked of advertisements
abbrev pub message_items : ℕ → List Item
message_items over =
    load Ldb 54 ∷ count (number_of DroppedIpv6RouterSolicitation) ∷ jump_if Jeq 133 (to_end Drop)
    ∷ jump_if Jne 136 (targets.Label over)
    ∷ (advertisement_items over ++ (items.Label over ∷ []))

-- where multicast isn't filtered
abbrev pub unfiltered_items : ℕ → List Item
unfiltered_items over = load Ldb 20 ∷ count (number_of PassedIpv6NonIcmp) ∷ jump_if Jne 58 (to_end Pass) ∷ message_items over

-- where it is: ICMPv6 messages go over what is asked of the destination
abbrev pub filtered_items : ℕ → ℕ → List Item
filtered_items message over = load Ldb 20 ∷ jump_if Jeq 58 (targets.Label message) ∷ (destination_items ++ (items.Label message ∷ message_items over))

-- where the host dozes as well: ICMPv6 messages but echo requests go over it
abbrev pub dozing_items : ℕ → ℕ → ℕ → List Item
dozing_items destination message over =
    load Ldb 20 ∷ jump_if Jne 58 (targets.Label destination)
    ∷ load Ldb 54 ∷ jump_if Jne 128 (targets.Label message)
    ∷ items.Label destination
    ∷ (destination_items ++ (items.Label message ∷ message_items over))

-- by whether multicast is filtered and whether the host dozes
abbrev pub items_by : Bool → Bool → ℕ → List Item
items_by false doze next = unfiltered_items next
items_by true false next = filtered_items (next + 1) next
items_by true true next = dozing_items (next + 2) (next + 1) next

abbrev pub ip6_items : Basis → ℕ → List Item
ip6_items basis next = items_by basis.state.multicast basis.state.doze next
