-- The items of a chosen record. Each place is an immediate of two bytes, so that the fragment has exactly as many bytes as
-- the record weighs.
use Rattle.std.specs.Prelude.{ℕ, ◌+◌, ◌==◌, if◌then◌else◌, List, [], ◌∷◌, ◌++◌, length, slice_range, flat_map}
use Rattle.apf_coding.specs.declared.instruction.Op.{Op}
use Rattle.apf_coding.specs.declared.instruction.Op.TheVariants.{Ldh, Ldw, Li, Jgt, Jne, Jlt, Ext}
use Rattle.apf_coding.specs.declared.machine.Verdict.TheVariants.{Drop}
use Rattle.apf_asm.specs.declared.item.Item.{Item}
use Rattle.apf_asm.specs.declared.item.Item.TheVariants as items
use Rattle.apf_asm.specs.declared.item.Target.TheVariants as targets
use Rattle.data_counters.specs.declared.counter.Counter.TheVariants.{DroppedRa}
use Rattle.data_counters.specs.Counters.{number_of}
use Rattle.ra_records.specs.declared.span.Span.{Span}
use Rattle.ra_records.specs.Advert.{sections}
use Rattle.policy_state.specs.declared.basis.Chosen.{Chosen}
use Rattle.apf_asm.specs.Building.{to_end, fixed, count, jump_if, jump, jump_unless}

abbrev pub section_bytes : List ℕ → Span → List ℕ
section_bytes bytes section = slice_range bytes section.at (section.at + section.len)

-- a section of the frame is as in the record's bytes
abbrev pub section_items : ℕ → List ℕ → Span → List Item
section_items away bytes section = fixed Li 0 2 section.at ∷ jump_unless (section_bytes bytes section) (targets.Label away) ∷ []

abbrev pub load_of : Span → Op
load_of lifetime = if lifetime.len == 2 then Ldh else Ldw

-- a lifetime in the frame is not below the hold
abbrev pub lifetime_items : ℕ → ℕ → Span → List Item
lifetime_items away hold lifetime = fixed (load_of lifetime) 0 2 lifetime.at ∷ jump_if Jlt hold (targets.Label away) ∷ []

abbrev pub dropping_items : List Item
dropping_items = count (number_of DroppedRa) ∷ jump (to_end Drop) ∷ []

-- a frame that is as long as the record
abbrev pub compare_items : ℕ → Chosen → List Item
compare_items away chosen =
    flat_map (section_items away chosen.advert.bytes) (sections chosen.advert)
    ++ (flat_map (lifetime_items away chosen.hold) chosen.advert.lifetimes ++ dropping_items)

-- Slot 15 has the age in seconds, and slot 14 the frame's length. Other frames go over all that is left.
abbrev pub ra_items : ℕ → Chosen → List Item
ra_items away chosen =
    fixed Ext 0 1 15 ∷ jump_if Jgt chosen.hold (targets.Label away)
    ∷ fixed Ext 0 1 14 ∷ jump_if Jne (length chosen.advert.bytes) (targets.Label away)
    ∷ (compare_items away chosen ++ (items.Label away ∷ []))
