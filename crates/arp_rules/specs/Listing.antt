-- The items of the rules for the Ethernet header and for ARP.
use Rattle.std.specs.Prelude.{ℕ, ◌+◌, ◌<◌, ◌^◌, Bool, true, false, List, [], ◌∷◌, ◌++◌, map, Option, Some, None}
use Rattle.apf_coding.specs.declared.instruction.Op.TheVariants.{Ldh, Ldw, Jeq, Jne, Jlt}
use Rattle.apf_coding.specs.declared.machine.Verdict.TheVariants.{Pass, Drop}
use Rattle.apf_asm.specs.declared.item.Item.{Item}
use Rattle.apf_asm.specs.declared.item.Item.TheVariants as items
use Rattle.apf_asm.specs.declared.item.Target.TheVariants as targets
use Rattle.data_counters.specs.declared.counter.Counter.TheVariants.{PassedArp, PassedArpNonIpv4, PassedArpUnknown, PassedArpUnicastReply, Dropped8023Frame, DroppedEthertypeDenied, DroppedArpReplySpaNoHost, DroppedGarpReply, DroppedArpOtherHost}
use Rattle.data_counters.specs.Counters.{number_of}
use Rattle.policy_state.specs.declared.basis.Basis.{Basis}
use Rattle.policy_state.specs.declared.state.Address.{Address}
use Rattle.policy_state.specs.Ethernet.{broadcast}
use Rattle.policy_state.specs.Policy.{arp_opening}
use Rattle.apf_asm.specs.Building.{to_end, load, place, count, jump_if, jump, jump_unless}

-- ---- the Ethernet header, with the ethertype in R0

abbrev pub length_items : Bool → List Item
length_items true = count (number_of Dropped8023Frame) ∷ jump_if Jlt 0x600 (to_end Drop) ∷ []
length_items false = []

abbrev pub deny_items : List ℕ → List Item
deny_items deny = map (λ denied. jump_if Jeq denied (to_end Drop)) deny

abbrev pub denied_items : List ℕ → List Item
denied_items deny = count (number_of DroppedEthertypeDenied) ∷ deny_items deny

abbrev pub link_items : Basis → List Item
link_items basis = load Ldh 12 ∷ (length_items basis.config.drop_802_3 ++ denied_items basis.config.deny)

-- ---- ARP

-- a packet that is no request, with the operation in R0
abbrev pub reply_items : List Item
reply_items =
    count (number_of PassedArpUnknown) ∷ jump_if Jne 2 (to_end Pass)
    ∷ load Ldw 28 ∷ count (number_of DroppedArpReplySpaNoHost) ∷ jump_if Jeq 0 (to_end Drop)
    ∷ place 0 ∷ count (number_of PassedArpUnicastReply) ∷ jump_unless broadcast (to_end Pass)
    ∷ []

-- whom a packet asks for
abbrev pub target_items : Option Address → List Item
target_items None =
    load Ldw 38 ∷ count (number_of DroppedGarpReply) ∷ jump_if Jeq 0 (to_end Drop)
    ∷ count (number_of PassedArp) ∷ jump (to_end Pass)
    ∷ []
target_items (Some address) =
    load Ldw 38 ∷ count (number_of DroppedArpOtherHost) ∷ jump_if Jne address.ip (to_end Drop)
    ∷ count (number_of PassedArp) ∷ jump (to_end Pass)
    ∷ []

-- a request goes over what is asked of replies
abbrev pub operation_items : ℕ → Option Address → List Item
operation_items request address = load Ldh 20 ∷ jump_if Jeq 1 (targets.Label request) ∷ (reply_items ++ (items.Label request ∷ target_items address))

abbrev pub packet_items : ℕ → Option Address → List Item
packet_items request address = place 14 ∷ count (number_of PassedArpNonIpv4) ∷ jump_unless arp_opening (to_end Pass) ∷ operation_items request address

-- other frames go over the packet
abbrev pub arp_items : ℕ → Option Address → List Item
arp_items next address = load Ldh 12 ∷ jump_if Jne 0x806 (targets.Label next) ∷ (packet_items (next + 1) address ++ (items.Label next ∷ []))

-- ---- what is known of the host's address

-- it is a number of four bytes
abbrev pub IsAddressInRange : Option Address → Type 0
IsAddressInRange None = Unit {0}
IsAddressInRange (Some address) = address.ip < 2 ^ 32
