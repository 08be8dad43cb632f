-- What is wrong with an item, by what is found of labels.
use Rattle.std.proofs.Common.{◌≡◌, ℕ, ◌+◌, ◌<◌, ◌≤◌, Bool, true, false, cond, ltb, List, [], ◌∷◌, ◌++◌, length, take, drop, get_or, Option, Some, None, refl, sym, ap, subst, ◌∙◌, arith, eq-eqb}
use Rattle.std.proofs.lemmas.Bool.{lt-ltb, le-ltb}
use Rattle.std.proofs.lemmas.List.{length-take, drop_all}
use Rattle.apf_asm.specs.declared.item.Item.{Item}
use Rattle.apf_asm.specs.declared.item.Item.TheVariants as items
use Rattle.apf_asm.specs.declared.item.Target.{Target}
use Rattle.apf_asm.specs.declared.item.Target.TheVariants as targets
use Rattle.apf_asm.specs.declared.item.AsmError.{AsmError}
use Rattle.apf_asm.specs.declared.item.AsmError.TheVariants.{Twice, Unknown, Backward}
use Rattle.apf_asm.specs.Items.{marks}
use Rattle.apf_asm.specs.Refusals.{stands, target_refused, refused, first, refused_from, refused_at}
use Rattle.apf_asm.specs.Labels.{label_at, label_found, label_refused, jump_refused, to_refused, item_refused}
use Rattle.apf_asm.proofs.Here.{drop_here, take_here, split_here}
use Rattle.apf_asm.proofs.LabelPlaces.{found-early, found-behind, found-never, label_at-lt}

-- ---- a label

label_cases : (l : ℕ) (before after : List Item) (b : Bool) → stands l before ≡ b → cond b (Some (Twice (length before) l)) None ≡ label_refused (length before) l (label_found l (before ++ items.Label l ∷ after))
unfolding stands label_at
label_cases l before after true e =
    let early : ltb (label_at l before) (length before) ≡ true = lt-ltb _ _ (label_at-lt l before e) in
    rw (found-early l before (items.Label l ∷ after) e, early) refl
label_cases l before after false e =
    let marked = eq-eqb l l refl in
    let here : stands l (items.Label l ∷ after) ≡ true = rw marked refl in
    let at : label_at l (items.Label l ∷ after) ≡ 0 = rw marked refl in
    let late : ltb (length before + 0) (length before) ≡ false = le-ltb _ _ (omega arith) in
    rw (found-behind l before (items.Label l ∷ after) e here, at, late) refl

-- ---- a jump

jump_cases : (l : ℕ) (before after : List Item) (x : Item) (b a : Bool) → marks l x ≡ false → stands l before ≡ b → stands l after ≡ a
    → cond b (Some (Backward (length before) l)) (cond a None (Some (Unknown (length before) l))) ≡ jump_refused (length before) l (label_found l (before ++ x ∷ after))
unfolding stands label_at
jump_cases l before after x true a other e h =
    let early : ltb (label_at l before) (length before) ≡ true = lt-ltb _ _ (label_at-lt l before e) in
    rw (found-early l before (x ∷ after) e, early) refl
jump_cases l before after x false true other e h =
    let behind : stands l (x ∷ after) ≡ true = rw (other, h) refl in
    let at : label_at l (x ∷ after) ≡ 1 + label_at l after = rw other (omega arith) in
    let late : ltb (length before + (1 + label_at l after)) (length before) ≡ false = le-ltb _ _ (omega arith) in
    rw (found-behind l before (x ∷ after) e behind, at, late) refl
jump_cases l before after x false false other e h =
    let never : stands l (x ∷ after) ≡ false = rw (other, h) refl in
    rw (found-never l before (x ∷ after) e never) refl

target_cases : (before after : List Item) (x : Item) (to : Target) → ((l : ℕ) → marks l x ≡ false) → target_refused (length before) before after to ≡ to_refused (λ l. label_found l (before ++ x ∷ after)) (length before) to
target_cases before after x (targets.Label l) other = jump_cases l before after x (stands l before) (stands l after) (other l) refl refl
target_cases before after x targets.Pass other = refl
target_cases before after x targets.Drop other = refl

-- ---- any item

item_cases : (before after : List Item) (x : Item) → refused (length before) before after x ≡ item_refused (λ l. label_found l (before ++ x ∷ after)) (length before) x
item_cases before after (items.Label l) = label_cases l before after (stands l before) refl
item_cases before after (items.Jump j) = target_cases before after (items.Jump j) j.to (λ l. refl)
item_cases before after (items.Fixed f) = refl
item_cases before after (items.Byte b) = refl

item_refused-same : (f g : ℕ → Option ℕ) (i : ℕ) (x : Item) → ((l : ℕ) → f l ≡ g l) → item_refused f i x ≡ item_refused g i x
item_refused-same f g i (items.Label l) same = ap (label_refused i l) (same l)
item_refused-same f g i (items.Jump j) same = target_same j.to
  where
    target_same : (to : Target) → to_refused f i to ≡ to_refused g i to
    target_same (targets.Label l) = ap (jump_refused i l) (same l)
    target_same targets.Pass = refl
    target_same targets.Drop = refl
item_refused-same f g i (items.Fixed x) same = refl
item_refused-same f g i (items.Byte b) same = refl

pub refused_is : (xs : List Item) (i : ℕ) (x : Item) (f : ℕ → Option ℕ) → i < length xs → x ≡ get_or xs i x → ((l : ℕ) → f l ≡ label_found l xs) → refused_at xs i x ≡ item_refused f i x
refused_is xs i x f lt is found =
    let before : List Item = take i xs in
    let after : List Item = drop (i + 1) xs in
    let parts = split_here xs i x lt is in
    let long : length before ≡ i = omega (arith, length-take i xs) in
    let same : item_refused (λ l. label_found l (before ++ x ∷ after)) i x ≡ item_refused f i x = item_refused-same _ f i x (λ l. ap (label_found l) (sym parts) ∙ sym (found l)) in
    let here = subst (λ (n : ℕ). refused n before after x ≡ item_refused (λ l. label_found l (before ++ x ∷ after)) n x) long (item_cases before after x) in
    here ∙ same

-- ---- one item more is gone through

pub refused_more : (xs : List Item) (i : ℕ) (x : Item) → i < length xs → x ≡ get_or xs i x → refused_from i (take i xs) (drop i xs) ≡ first (refused_at xs i x) (refused_from (i + 1) (take (i + 1) xs) (drop (i + 1) xs))
unfolding refused_from
refused_more xs i x lt e =
    ap (refused_from i (take i xs)) (drop_here xs i x lt e)
    ∙ ap (λ (b : List Item). first (refused_at xs i x) (refused_from (i + 1) b (drop (i + 1) xs))) (sym (take_here xs i x lt e))

pub refused_goes_on : (xs : List Item) (i : ℕ) (x : Item) → i < length xs → x ≡ get_or xs i x → refused_at xs i x ≡ None → refused_from i (take i xs) (drop i xs) ≡ refused_from (i + 1) (take (i + 1) xs) (drop (i + 1) xs)
refused_goes_on xs i x lt e none = refused_more xs i x lt e ∙ ap (λ (o : Option AsmError). first o (refused_from (i + 1) (take (i + 1) xs) (drop (i + 1) xs))) none

pub refused_ends : (xs : List Item) (i : ℕ) (x : Item) (error : AsmError) → i < length xs → x ≡ get_or xs i x → refused_at xs i x ≡ Some error → refused_from i (take i xs) (drop i xs) ≡ Some error
refused_ends xs i x error lt e some = refused_more xs i x lt e ∙ ap (λ (o : Option AsmError). first o (refused_from (i + 1) (take (i + 1) xs) (drop (i + 1) xs))) some

pub refused_all : (xs : List Item) (i : ℕ) → length xs ≤ i → refused_from i (take i xs) (drop i xs) ≡ None
unfolding refused_from
refused_all xs i le = ap (refused_from i (take i xs)) (drop_all i xs le)

-- ---- what a test answered

pub none_left : (o : Option AsmError) → ((e : AsmError) → o ≡ Some e → ⊥) → o ≡ None
none_left (Some e) other = absurd (other e refl)
none_left None other = refl
