-- Offsets as differences of distances to the code's end.
use Rattle.std.specs.Prelude.{ℕ, ◌+◌, ◌-◌, if◌then◌else◌, List, drop, Option, Some, None}
use Rattle.apf_asm.specs.declared.item.Item.{Item}
use Rattle.apf_asm.specs.declared.item.Item.TheVariants as items
use Rattle.apf_asm.specs.declared.item.Target.{Target}
use Rattle.apf_asm.specs.declared.item.Target.TheVariants as targets
use Rattle.apf_asm.specs.Layout.{total, item_widths}
use Rattle.apf_asm.specs.Refusals.{stands}
use Rattle.apf_asm.specs.Labels.{label_at}

-- how many bytes the items come to
abbrev pub code_length : List Item → ℕ
code_length items = total items (item_widths items)

-- Drop lies one byte behind the end
abbrev pub behind_end : Target → ℕ
behind_end (targets.Label l) = 0
behind_end targets.Pass = 0
behind_end targets.Drop = 1

-- an item's offset, where the end is so far from the place behind it and so far from its target
abbrev pub apart : Item → ℕ → ℕ → ℕ
apart (items.Jump j) here there = here - there + behind_end j.to
apart (items.Fixed f) here there = 0
apart (items.Label l) here there = 0
apart (items.Byte b) here there = 0

-- ---- how far the end is from targets

-- from a label, where it stands in these items
abbrev pub label_far : List Item → ℕ → Option ℕ
label_far rest l = if stands l rest then Some (code_length (drop (label_at l rest) rest)) else None

abbrev pub target_far : (ℕ → Option ℕ) → Target → Option ℕ
target_far far (targets.Label l) = far l
target_far far targets.Pass = Some 0
target_far far targets.Drop = Some 0

-- None where the label stands again
abbrev pub once : Option ℕ → Option ℕ
once (Some there) = None
once None = Some 0

-- from an item's target, or 0 where it has none; None where the items behind it lack its label, or have it again
abbrev pub item_far : (ℕ → Option ℕ) → Item → Option ℕ
item_far far (items.Jump j) = target_far far j.to
item_far far (items.Label l) = once (far l)
item_far far (items.Fixed f) = Some 0
item_far far (items.Byte b) = Some 0
