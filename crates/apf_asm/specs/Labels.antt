-- Where labels stand, by the numbers of items.
use Rattle.std.specs.Prelude.{ℕ, suc, nat_lt, if◌then◌else◌, List, [], ◌∷◌, slice_get, Option, Some, None}
use Rattle.std.specs.Ordering.{nat_cmp}
use Rattle.std.specs.BTreeMap as tree
use Rattle.apf_asm.specs.declared.item.Item.{Item}
use Rattle.apf_asm.specs.declared.item.Item.TheVariants as items
use Rattle.apf_asm.specs.declared.item.Target.{Target}
use Rattle.apf_asm.specs.declared.item.Target.TheVariants as targets
use Rattle.apf_asm.specs.declared.item.AsmError.{AsmError}
use Rattle.apf_asm.specs.declared.item.AsmError.TheVariants.{Twice, Unknown, Backward}
use Rattle.apf_asm.specs.Items.{marks}
use Rattle.apf_asm.specs.Refusals.{stands}

-- the number of the first item that is the label, in items that have it
unfoldable pub label_at : ℕ → List Item → ℕ
label_at l [] = 0
label_at l (item ∷ rest) = if marks l item then 0 else suc (label_at l rest)

abbrev pub label_found : ℕ → List Item → Option ℕ
label_found l items = if stands l items then Some (label_at l items) else None

-- ---- what is found of a label in an array of the labels that are near, and a tree of those beyond it

abbrev pub found_in : Option (Option ℕ) → Option ℕ → Option ℕ
found_in (Some near) far = near
found_in None far = far

abbrev pub found : List (Option ℕ) → tree.BTreeMap ℕ ℕ → ℕ → Option ℕ
found near far label = found_in (slice_get near label) (tree.get nat_cmp far label)

-- what is found once the item, if it is a label, has this number
abbrev pub noted : Item → ℕ → (ℕ → Option ℕ) → ℕ → Option ℕ
noted item number found label = if marks label item then Some number else found label

-- ---- what is wrong with an item, by what is found of the first items that are labels

abbrev pub label_refused : ℕ → ℕ → Option ℕ → Option AsmError
label_refused number label (Some place) = if nat_lt place number then Some (Twice number label) else None
label_refused number label None = None

abbrev pub jump_refused : ℕ → ℕ → Option ℕ → Option AsmError
jump_refused number label (Some place) = if nat_lt place number then Some (Backward number label) else None
jump_refused number label None = Some (Unknown number label)

abbrev pub to_refused : (ℕ → Option ℕ) → ℕ → Target → Option AsmError
to_refused found number (targets.Label l) = jump_refused number l (found l)
to_refused found number targets.Pass = None
to_refused found number targets.Drop = None

abbrev pub item_refused : (ℕ → Option ℕ) → ℕ → Item → Option AsmError
item_refused found number (items.Label l) = label_refused number l (found l)
item_refused found number (items.Jump j) = to_refused found number j.to
item_refused found number (items.Fixed f) = None
item_refused found number (items.Byte b) = None
