-- Narrowing, as another way to the layout's widths.
use Rattle.std.specs.Prelude.{ℕ, zero, suc, min, List, [], ◌∷◌, map}
use Rattle.apf_asm.specs.declared.item.Item.{Item}
use Rattle.apf_asm.specs.declared.item.Item.TheVariants as items
use Rattle.apf_asm.specs.Layout.{item_offset, item_width}

-- a jump begins with width 4
abbrev pub wide_width : Item → ℕ
wide_width (items.Jump j) = 4
wide_width (items.Fixed f) = 0
wide_width (items.Label l) = 0
wide_width (items.Byte b) = 0

-- one round: each jump is narrowed to the width that its offset needs where all have these widths
unfoldable pub narrowed : List Item → List ℕ → List ℕ
narrowed [] widths = []
narrowed (item ∷ rest) [] = []
narrowed (item ∷ rest) (w ∷ widths) = min w (item_width item (item_offset item rest widths)) ∷ narrowed rest widths

-- the widths after so many rounds
unfoldable pub rounds : ℕ → List Item → List ℕ
rounds zero items = map wide_width items
rounds (suc n) items = narrowed items (rounds n items)
