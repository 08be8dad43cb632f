-- A list of items at one of them.
use Rattle.std.proofs.Common.{◌≡◌, ℕ, ◌+◌, ◌<◌, List, [], ◌∷◌, ◌++◌, length, take, drop, get_or, sym, ap, ◌∙◌, arith}
use Rattle.std.proofs.lemmas.List.{take_more, drop_more, take-append-drop, get_or_default}
use Rattle.apf_asm.specs.declared.item.Item.{Item}

pub drop_here : (xs : List Item) (i : ℕ) (x : Item) → i < length xs → x ≡ get_or xs i x → drop i xs ≡ x ∷ drop (i + 1) xs
drop_here xs i x lt e = drop_more xs i x lt ∙ ap (λ (y : Item). y ∷ drop (i + 1) xs) (sym e)

pub take_here : (xs : List Item) (i : ℕ) (x : Item) → i < length xs → x ≡ get_or xs i x → take (i + 1) xs ≡ take i xs ++ x ∷ []
take_here xs i x lt e = take_more xs i x lt ∙ ap (λ (y : Item). take i xs ++ y ∷ []) (sym e)

pub split_here : (xs : List Item) (i : ℕ) (x : Item) → i < length xs → x ≡ get_or xs i x → xs ≡ take i xs ++ x ∷ drop (i + 1) xs
split_here xs i x lt e = sym (take-append-drop i xs) ∙ ap (λ (t : List Item). take i xs ++ t) (drop_here xs i x lt e)

pub item_there : (xs : List Item) (i : ℕ) → i < length xs → (x : Item) × (x ≡ get_or xs i x)
item_there [] i lt = absurd (omega arith)
item_there (x ∷ xs) i lt = (get_or (x ∷ xs) i x, get_or_default (x ∷ xs) i x (get_or (x ∷ xs) i x) lt)
