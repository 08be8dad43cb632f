-- The one layout of items: the bytes, places and widths.
use Rattle.std.specs.Prelude.{ℕ, ◌+◌, if◌then◌else◌, max, List, [], ◌∷◌, ◌++◌, length, sum_by}
use Rattle.apf_coding.specs.Widths.{least_unsigned}
use Rattle.apf_coding.specs.Instruction.{is_counted}
use Rattle.apf_coding.specs.Spelling.{IsWellFormed, spelling}
use Rattle.apf_asm.specs.declared.item.Item.{Item}
use Rattle.apf_asm.specs.declared.item.Item.TheVariants as items
use Rattle.apf_asm.specs.declared.item.Target.{Target}
use Rattle.apf_asm.specs.declared.item.Target.TheVariants as targets
use Rattle.apf_asm.specs.declared.item.Jump.{Jump}
use Rattle.apf_asm.specs.Items.{fixed_instruction, jump_instruction, marks}

-- ---- an item

-- the bytes of an item, where a jump has this width and this offset
abbrev pub piece : Item → ℕ → ℕ → List ℕ
piece (items.Fixed f) width offset = spelling (fixed_instruction f)
piece (items.Jump j) width offset = spelling (jump_instruction j width offset)
piece (items.Label l) width offset = []
piece (items.Byte b) width offset = b ∷ []

-- the size of an item, where a jump has this width; no offset changes it
abbrev pub size : Item → ℕ → ℕ
size item width = length (piece item width 0)

-- an item can be spelled with this width and this offset
abbrev pub IsFit : Item → ℕ → ℕ → Type 0
IsFit (items.Fixed f) width offset = IsWellFormed (fixed_instruction f)
IsFit (items.Jump j) width offset = IsWellFormed (jump_instruction j width offset)
IsFit (items.Label l) width offset = Unit {0}
IsFit (items.Byte b) width offset = Unit {0}

-- ---- the items behind a jump, with a width for each

-- the sum of all sizes
unfoldable pub total : List Item → List ℕ → ℕ
total [] widths = 0
total (item ∷ rest) [] = 0
total (item ∷ rest) (w ∷ widths) = size item w + total rest widths

-- the sum of the sizes before a label
unfoldable pub total_before : ℕ → List Item → List ℕ → ℕ
total_before l [] widths = 0
total_before l (item ∷ rest) [] = 0
total_before l (item ∷ rest) (w ∷ widths) = if marks l item then 0 else size item w + total_before l rest widths

-- from the place behind a jump to its target: Pass is the code's end, Drop is one more
abbrev pub offset : List Item → List ℕ → Target → ℕ
offset rest widths (targets.Label l) = total_before l rest widths
offset rest widths targets.Pass = total rest widths
offset rest widths targets.Drop = total rest widths + 1

-- 0 where the item is no jump
abbrev pub item_offset : Item → List Item → List ℕ → ℕ
item_offset (items.Jump j) rest widths = offset rest widths j.to
item_offset (items.Fixed f) rest widths = 0
item_offset (items.Label l) rest widths = 0
item_offset (items.Byte b) rest widths = 0

-- ---- the widths

-- what a jump's width has to hold beside its offset: the count of its bytes, or its second immediate
abbrev pub beside : Jump → ℕ
beside j = if is_counted j.op then length j.bytes else j.second

-- the width of a jump with this offset
abbrev pub width_for : Jump → ℕ → ℕ
width_for j offset = max (least_unsigned offset) (least_unsigned (beside j))

-- 0 where the item is no jump
abbrev pub item_width : Item → ℕ → ℕ
item_width (items.Jump j) offset = width_for j offset
item_width (items.Fixed f) offset = 0
item_width (items.Label l) offset = 0
item_width (items.Byte b) offset = 0

-- for each item its width, from the last item to the first: an offset depends on later items alone
unfoldable pub item_widths : List Item → List ℕ
item_widths [] = []
item_widths (item ∷ rest) = let widths = item_widths rest in item_width item (item_offset item rest widths) ∷ widths

-- for each item its offset
unfoldable pub item_offsets : List Item → List ℕ
item_offsets [] = []
item_offsets (item ∷ rest) = item_offset item rest (item_widths rest) ∷ item_offsets rest

-- ---- the whole, with a width for each item

unfoldable pub code : List Item → List ℕ → List ℕ
code [] widths = []
code (item ∷ rest) [] = []
code (item ∷ rest) (w ∷ widths) = piece item w (item_offset item rest widths) ++ code rest widths

-- for each item its place, where the first has this one
unfoldable pub places : ℕ → List Item → List ℕ → List ℕ
places at [] widths = []
places at (item ∷ rest) [] = []
places at (item ∷ rest) (w ∷ widths) = at ∷ places (at + size item w) rest widths

-- what an item adds to the widths of jumps
abbrev pub own_width : Item → ℕ → List ℕ
own_width (items.Jump j) w = w ∷ []
own_width (items.Fixed f) w = []
own_width (items.Label l) w = []
own_width (items.Byte b) w = []

-- the widths of the jumps alone
unfoldable pub jump_widths : List Item → List ℕ → List ℕ
jump_widths [] widths = []
jump_widths (item ∷ rest) [] = []
jump_widths (item ∷ rest) (w ∷ widths) = own_width item w ++ jump_widths rest widths

pub record Layout : Type 0 where
  pub bytes : List ℕ
  pub places : List ℕ
  pub widths : List ℕ

abbrev pub layout : List Item → Layout
layout items = let widths = item_widths items in record { bytes = code items widths; places = places 0 items widths; widths = jump_widths items widths }

-- ---- the wide sizes

-- the length of an item's spelling, a jump being taken at width 4
abbrev pub wide_size : Item → ℕ
wide_size item = size item 4

abbrev pub wide_length : List Item → ℕ
wide_length items = sum_by wide_size items
