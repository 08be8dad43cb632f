-- The items of a whole program, but for those of its rules.
use Rattle.std.specs.Prelude.{ℕ, List, [], ◌∷◌, ◌++◌}
use Rattle.apf_coding.specs.declared.instruction.Op.TheVariants.{Ldh, Lddw, Stdw, Add, Jne}
use Rattle.apf_coding.specs.declared.machine.Verdict.TheVariants.{Pass, Drop}
use Rattle.apf_asm.specs.declared.item.Item.{Item}
use Rattle.apf_asm.specs.declared.item.Item.TheVariants as items
use Rattle.apf_asm.specs.declared.item.Target.TheVariants as targets
use Rattle.data_counters.specs.declared.counter.Counter.TheVariants.{PassedIpv6Icmp, PassedNonIpUnicast, DroppedEthBroadcast}
use Rattle.data_counters.specs.Counters.{number_of}
use Rattle.policy_state.specs.Ethernet.{broadcast}
use Rattle.apf_asm.specs.Building.{to_end, fixed, load, place, count, jump_if, jump, jump_unless}

-- one more in the word at a distance from R1; a distance from 128 on is one of minus 256 more
abbrev pub raising_items : ℕ → List Item
raising_items distance = fixed Lddw 0 1 distance ∷ fixed Add 0 1 1 ∷ fixed Stdw 0 1 distance ∷ []

-- TotalPackets is raised: R1 is 0 where a run begins, and the counter is the last word, at -4
abbrev pub opening_items : List Item
opening_items = raising_items 252

-- frames other than IPv6 go over its question
abbrev pub ip6_test_items : ℕ → List Item
ip6_test_items over = load Ldh 12 ∷ jump_if Jne 0x86dd (targets.Label over) ∷ []

-- an IPv6 packet that no rule answers
abbrev pub ip6_last_items : List Item
ip6_last_items = count (number_of PassedIpv6Icmp) ∷ jump (to_end Pass) ∷ []

-- the question on IPv6, with the items of its rules and of the chosen records
abbrev pub ip6_items : ℕ → List Item → List Item → List Item
ip6_items over rules records = ip6_test_items over ++ ((rules ++ (records ++ ip6_last_items)) ++ (items.Label over ∷ []))

-- all other frames
abbrev pub last_items : List Item
last_items =
    place 0 ∷ count (number_of PassedNonIpUnicast) ∷ jump_unless broadcast (to_end Pass)
    ∷ count (number_of DroppedEthBroadcast) ∷ jump (to_end Drop)
    ∷ []

-- the counter that R1 asks for is raised, and the program ends
abbrev pub end_items : List Item
end_items =
    items.Label 0 ∷ fixed Lddw 0 1 0 ∷ fixed Add 0 1 1 ∷ fixed Stdw 0 1 0 ∷ jump targets.Pass
    ∷ items.Label 1 ∷ fixed Lddw 0 1 0 ∷ fixed Add 0 1 1 ∷ fixed Stdw 0 1 0 ∷ jump targets.Drop
    ∷ []

-- a program's items round those of its questions
abbrev pub between_ends : List Item → List Item
between_ends xs = opening_items ++ (xs ++ end_items)
