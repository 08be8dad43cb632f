-- The instructions of items that are laid out, each with its place.
use Rattle.std.specs.Prelude.{ℕ, List, [], ◌∷◌, ◌++◌}
use Rattle.apf_asm.specs.declared.item.Item.{Item}
use Rattle.apf_asm.specs.declared.item.Item.TheVariants as items
use Rattle.apf_asm.specs.Items.{fixed_instruction, jump_instruction}
use Rattle.apf_asm.specs.Layout.{item_offset, item_widths, layout}
use Rattle.apf_disasm.specs.Listing as listing
use Rattle.apf_disasm.specs.Listing.{ListingEntry}

-- an item that is a byte as it stands is none of the instructions
abbrev pub IsNoByte : Item → Type 0
IsNoByte (items.Byte b) = ⊥
IsNoByte _ = Unit {0}

-- the instruction of an item at a place, where a jump has this width and this offset
abbrev pub instruction_of : Item → ℕ → ℕ → ℕ → List ListingEntry
instruction_of (items.Fixed f) at width offset = listing.Op at (fixed_instruction f) ∷ []
instruction_of (items.Jump j) at width offset = listing.Op at (jump_instruction j width offset) ∷ []
instruction_of (items.Label l) at width offset = []
instruction_of (items.Byte b) at width offset = []

-- the instructions of items with these widths and these places
unfoldable pub instructions_from : List Item → List ℕ → List ℕ → List ListingEntry
instructions_from [] widths places = []
instructions_from (item ∷ rest) [] places = []
instructions_from (item ∷ rest) (w ∷ widths) [] = []
instructions_from (item ∷ rest) (w ∷ widths) (at ∷ places) = instruction_of item at w (item_offset item rest widths) ++ instructions_from rest widths places

-- the instructions of the layout
abbrev pub instructions_of : List Item → List ListingEntry
instructions_of items = instructions_from items (item_widths items) (layout items).places
