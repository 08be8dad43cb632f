-- The items of the rules for IPv4 and for keepalives. Headers are those of RFC 791 (IPv4), RFC 768 (UDP), RFC 2131 (DHCP)
-- and RFC 9293 (TCP); NAT keepalives are those of RFC 3948.
use Rattle.std.specs.Prelude.{ℕ, ◌+◌, ◌<◌, ◌^◌, Bool, true, false, nat_lt, if◌then◌else◌, List, [], ◌∷◌, ◌++◌, Option, Some, None, count_by, is_some}
use Rattle.std.specs.List.{list_any}
use Rattle.apf_coding.specs.declared.instruction.Op.TheVariants.{Ldb, Ldh, Ldw, Ldbx, Ldhx, Add, Div, And, Ext, Jeq, Jne, Jset}
use Rattle.apf_coding.specs.declared.machine.Verdict.TheVariants.{Pass, Drop}
use Rattle.apf_asm.specs.declared.item.Item.{Item}
use Rattle.apf_asm.specs.declared.item.Item.TheVariants as items
use Rattle.apf_asm.specs.declared.item.Target.TheVariants as targets
use Rattle.data_counters.specs.declared.counter.Counter.TheVariants.{PassedDhcp, PassedIpv4, PassedIpv4Unicast, DroppedIpv4L2Broadcast, DroppedIpv4BroadcastAddr, DroppedIpv4BroadcastNet, DroppedIpv4Multicast, DroppedIpv4KeepaliveAck, DroppedIpv4NattKeepalive}
use Rattle.data_counters.specs.Counters.{number_of}
use Rattle.policy_state.specs.declared.basis.Basis.{Basis}
use Rattle.policy_state.specs.declared.state.Address.{Address}
use Rattle.policy_state.specs.declared.state.Keepalive.{Keepalive}
use Rattle.policy_state.specs.Ethernet.{broadcast}
use Rattle.policy_state.specs.Ip4.{net_broadcast_of, ends_of, opening_of}
use Rattle.apf_asm.specs.Building.{to_end, fixed, load, place, count, jump_if, jump_if_r1, jump, jump_unless}

-- a register is the IPv4 header's length, which is in slot 13
abbrev pub header_into : ℕ → Item
header_into register = fixed Ext register 1 13

-- ---- answers to keepalives

-- an answer to one; other packets go over it
abbrev pub answer_items : ℕ → Keepalive → List Item
answer_items away sent =
    place 26 ∷ jump_unless (ends_of sent) (targets.Label away)
    ∷ header_into 1 ∷ load Ldbx 26 ∷ fixed Div 0 1 4 ∷ fixed Add 1 0 0
    ∷ fixed Ldh 1 1 16 ∷ jump_if_r1 Jne (targets.Label away)
    ∷ header_into 0 ∷ fixed Add 0 1 14 ∷ jump_unless (opening_of sent) (targets.Label away)
    ∷ count (number_of DroppedIpv4KeepaliveAck) ∷ jump (to_end Drop)
    ∷ items.Label away
    ∷ []

-- slot by slot, with a label for each keepalive
abbrev pub slots_items : ℕ → List (Option Keepalive) → List Item
slots_items next [] = []
slots_items next (None ∷ slots) = slots_items next slots
slots_items next (Some sent ∷ slots) = answer_items next sent ++ slots_items (next + 1) slots

-- other packets than TCP go over all of them
abbrev pub segment_items : ℕ → List Item → List Item
segment_items over answers = load Ldb 23 ∷ jump_if Jne 6 (targets.Label over) ∷ (answers ++ (items.Label over ∷ []))

-- there are items where a slot holds a keepalive
abbrev pub keepalive_items : ℕ → List (Option Keepalive) → List Item
keepalive_items next slots = if list_any is_some slots then segment_items (next + count_by is_some slots) (slots_items next slots) else []

-- the label behind theirs
abbrev pub label_behind : ℕ → List (Option Keepalive) → ℕ
label_behind next slots = if list_any is_some slots then next + count_by is_some slots + 1 else next

-- ---- what is asked before

-- DHCP to this host; other packets go over it
abbrev pub dhcp_items : ℕ → List ℕ → List Item
dhcp_items away mac =
    load Ldb 23 ∷ jump_if Jne 17 (targets.Label away)
    ∷ load Ldh 20 ∷ jump_if Jset 0x1fff (targets.Label away)
    ∷ header_into 1 ∷ load Ldhx 16 ∷ jump_if Jne 68 (targets.Label away)
    ∷ header_into 0 ∷ fixed Add 0 1 50 ∷ jump_unless mac (targets.Label away)
    ∷ count (number_of PassedDhcp) ∷ jump (to_end Pass)
    ∷ items.Label away
    ∷ []

-- the net's broadcast address, with the destination in R0
abbrev pub net_items : Option Address → List Item
net_items None = []
net_items (Some address) =
    if nat_lt address.prefix 31 then count (number_of DroppedIpv4BroadcastNet) ∷ jump_if Jeq (net_broadcast_of address) (to_end Drop) ∷ []
    else []

-- multicast and broadcast
abbrev pub destination_items : Option Address → List Item
destination_items address =
    load Ldb 30 ∷ fixed And 0 1 0xf0 ∷ count (number_of DroppedIpv4Multicast) ∷ jump_if Jeq 0xe0 (to_end Drop)
    ∷ load Ldw 30 ∷ count (number_of DroppedIpv4BroadcastAddr) ∷ jump_if Jeq 0xffffffff (to_end Drop)
    ∷ net_items address

-- where multicast is filtered
abbrev pub filtered_items : Bool → ℕ → List ℕ → Option Address → List Item
filtered_items true away mac address = dhcp_items away mac ++ destination_items address
filtered_items false away mac address = []

-- behind what is asked of every frame
abbrev pub first_items : Basis → ℕ → List Item
first_items basis label =
    load Ldh 12 ∷ jump_if Jne 0x800 (targets.Label (label + 2)) ∷ filtered_items basis.state.multicast (label + 1) basis.config.mac basis.state.address

-- ---- what is asked behind

-- NAT keepalives; other packets go over it
abbrev pub natt_items : ℕ → List Item
natt_items away =
    load Ldb 23 ∷ jump_if Jne 17 (targets.Label away)
    ∷ load Ldh 20 ∷ jump_if Jset 0x1fff (targets.Label away)
    ∷ header_into 1 ∷ load Ldhx 14 ∷ jump_if Jne 4500 (targets.Label away)
    ∷ load Ldhx 18 ∷ jump_if Jne 9 (targets.Label away)
    ∷ load Ldbx 22 ∷ jump_if Jne 0xff (targets.Label away)
    ∷ count (number_of DroppedIpv4NattKeepalive) ∷ jump (to_end Drop)
    ∷ items.Label away
    ∷ []

abbrev pub last_items : Bool → List Item
last_items true =
    place 0 ∷ count (number_of PassedIpv4Unicast) ∷ jump_unless broadcast (to_end Pass)
    ∷ count (number_of DroppedIpv4L2Broadcast) ∷ jump (to_end Drop)
    ∷ []
last_items false = count (number_of PassedIpv4) ∷ jump (to_end Pass) ∷ []

-- ---- the whole, round the items for keepalives

-- behind the keepalives
abbrev pub behind_items : Bool → ℕ → List Item
behind_items on label = natt_items label ++ last_items on

-- other frames go over the packet; the first label is that of NAT keepalives, the next one is DHCP's
abbrev pub ip4_items : Basis → ℕ → List Item → List Item
ip4_items basis label keepalives =
    load Ldh 12 ∷ jump_if Jne 0x800 (targets.Label (label + 2))
    ∷ ((filtered_items basis.state.multicast (label + 1) basis.config.mac basis.state.address ++ (keepalives ++ behind_items basis.state.multicast label)) ++ (items.Label (label + 2) ∷ []))

-- ---- what is known of the basis

-- the broadcast address of a net that has one is a number of four bytes
abbrev pub IsNetInRange : Option Address → Type 0
IsNetInRange None = Unit {0}
IsNetInRange (Some address) = address.prefix < 31 → net_broadcast_of address < 2 ^ 32
