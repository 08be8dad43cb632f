-- Where labels stand.
use Rattle.std.proofs.Common.{◌≡◌, ℕ, suc, ◌+◌, ◌<◌, Bool, true, false, cond, eqb, eq-eqb, List, [], ◌∷◌, ◌++◌, length, Option, Some, None, refl, sym, ap, subst, ◌∙◌, arith}
use Rattle.std.specs.Prelude.{◌||◌, ◌≢◌}
use Rattle.std.specs.Option.{is_some}
use Rattle.std.proofs.lemmas.Bool.{eqb-true, eqb-false, false≢true}
use Rattle.apf_asm.specs.declared.item.Item.{Item}
use Rattle.apf_asm.specs.declared.item.Item.TheVariants as items
use Rattle.apf_asm.specs.Items.{marks}
use Rattle.apf_asm.specs.Refusals.{stands}
use Rattle.apf_asm.specs.Labels.{label_at, label_found}

or_assoc : (a b c : Bool) → a || (b || c) ≡ (a || b) || c
or_assoc true b c = refl
or_assoc false b c = refl

or_false : (a : Bool) → a || false ≡ a
or_false true = refl
or_false false = refl

pub stands-append : (l : ℕ) (xs ys : List Item) → stands l (xs ++ ys) ≡ stands l xs || stands l ys
unfolding stands
stands-append l [] ys = refl
stands-append l (x ∷ xs) ys = ap (λ (b : Bool). marks l x || b) (stands-append l xs ys) ∙ or_assoc (marks l x) (stands l xs) (stands l ys)

stands-push : (l : ℕ) (xs : List Item) (x : Item) → stands l (xs ++ x ∷ []) ≡ stands l xs || marks l x
unfolding stands
stands-push l xs x = stands-append l xs (x ∷ []) ∙ ap (λ (b : Bool). stands l xs || b) (or_false (marks l x))

at_front : (b c : Bool) (m n : ℕ) → (b || c ≡ true) → (c ≡ true → m ≡ n) → cond b 0 (suc m) ≡ cond b 0 (suc n)
at_front true c m n e h = refl
at_front false c m n e h = ap suc (h e)

pub label_at-front : (l : ℕ) (xs ys : List Item) → stands l xs ≡ true → label_at l (xs ++ ys) ≡ label_at l xs
unfolding stands label_at
label_at-front l [] ys e = absurd cc
label_at-front l (x ∷ xs) ys e = at_front (marks l x) (stands l xs) _ _ e (label_at-front l xs ys)

at_behind : (b c : Bool) (m n k : ℕ) → (b || c ≡ false) → (c ≡ false → m ≡ n + k) → cond b 0 (suc m) ≡ suc n + k
at_behind true c m n k e h = absurd cc
at_behind false c m n k e h = omega (arith, h e)

pub label_at-behind : (l : ℕ) (xs ys : List Item) → stands l xs ≡ false → label_at l (xs ++ ys) ≡ length xs + label_at l ys
unfolding stands label_at
label_at-behind l [] ys e = omega arith
label_at-behind l (x ∷ xs) ys e = at_behind (marks l x) (stands l xs) _ _ _ e (label_at-behind l xs ys)

at_below : (b c : Bool) (m n : ℕ) → (b || c ≡ true) → (c ≡ true → m < n) → cond b 0 (suc m) < suc n
at_below true c m n e h = omega arith
at_below false c m n e h = omega (arith, h e)

pub label_at-lt : (l : ℕ) (xs : List Item) → stands l xs ≡ true → label_at l xs < length xs
unfolding stands label_at
label_at-lt l [] e = absurd cc
label_at-lt l (x ∷ xs) e = at_below (marks l x) (stands l xs) _ _ e (label_at-lt l xs)

-- ---- what is found of a label, by where it stands

pub found-early : (l : ℕ) (xs ys : List Item) → stands l xs ≡ true → label_found l (xs ++ ys) ≡ Some (label_at l xs)
found-early l xs ys e = rw (stands-append l xs ys, e, label_at-front l xs ys e) refl

pub found-behind : (l : ℕ) (xs ys : List Item) → stands l xs ≡ false → stands l ys ≡ true → label_found l (xs ++ ys) ≡ Some (length xs + label_at l ys)
found-behind l xs ys e h = rw (stands-append l xs ys, e, h, label_at-behind l xs ys e) refl

pub found-never : (l : ℕ) (xs ys : List Item) → stands l xs ≡ false → stands l ys ≡ false → label_found l (xs ++ ys) ≡ None
found-never l xs ys e h = rw (stands-append l xs ys, e, h) refl

-- ---- what is found in one item more

not_marked : (b : Bool) → (b ≡ true → false ≡ true) → b ≡ false
not_marked true h = sym (h refl)
not_marked false h = refl

found_cases : (l : ℕ) (xs : List Item) (x : Item) (b : Bool) → stands l xs ≡ b → (marks l x ≡ true → b ≡ true) → label_found l (xs ++ x ∷ []) ≡ label_found l xs
found_cases l xs x true e h = rw (stands-push l xs x, e, label_at-front l xs (x ∷ []) e) refl
found_cases l xs x false e h = rw (stands-push l xs x, e, not_marked (marks l x) h) refl

found_same : (l : ℕ) (xs : List Item) (x : Item) → (marks l x ≡ true → stands l xs ≡ true) → label_found l (xs ++ x ∷ []) ≡ label_found l xs
found_same l xs x h = found_cases l xs x (stands l xs) refl h

found_new : (l : ℕ) (xs : List Item) (x : Item) → marks l x ≡ true → stands l xs ≡ false → label_found l (xs ++ x ∷ []) ≡ Some (length xs)
unfolding label_at
found_new l xs x e no_one =
    let at : label_at l (x ∷ []) ≡ 0 = rw e refl in
    rw (stands-push l xs x, no_one, e, label_at-behind l xs (x ∷ []) no_one, at) (ap (λ (n : ℕ). Some n) (omega arith))

stands_as : (l : ℕ) (xs : List Item) (b : Bool) → b ≡ is_some (label_found l xs) → stands l xs ≡ b
stands_as l xs b e = go (stands l xs) refl
  where
    go : (s : Bool) → stands l xs ≡ s → stands l xs ≡ b
    go true h = h ∙ sym (e ∙ rw h refl)
    go false h = h ∙ sym (e ∙ rw h refl)

-- ---- what is found of the labels so far, f, and with one item more, g

pub noted_old : (f : ℕ → Option ℕ) (xs : List Item) (label : ℕ) → ((k : ℕ) → f k ≡ label_found k xs) → is_some (f label) ≡ true → (k : ℕ) → f k ≡ label_found k (xs ++ items.Label label ∷ [])
noted_old f xs label all there k =
    all k ∙ sym (found_same k xs (items.Label label) (λ e. subst (λ (l : ℕ). stands l xs ≡ true) (eqb-true label k e) (stands_as label xs true (sym there ∙ ap is_some (all label)))))

pub noted_other : (f : ℕ → Option ℕ) (xs : List Item) (x : Item) → ((k : ℕ) → f k ≡ label_found k xs) → ((l : ℕ) → x ≡ items.Label l → ⊥) → (k : ℕ) → f k ≡ label_found k (xs ++ x ∷ [])
noted_other f xs (items.Label l) all h k = absurd (h l refl)
noted_other f xs (items.Fixed x) all h k = all k ∙ sym (found_same k xs (items.Fixed x) (λ e. absurd (false≢true e)))
noted_other f xs (items.Jump x) all h k = all k ∙ sym (found_same k xs (items.Jump x) (λ e. absurd (false≢true e)))
noted_other f xs (items.Byte x) all h k = all k ∙ sym (found_same k xs (items.Byte x) (λ e. absurd (false≢true e)))

new_cases : (f g : ℕ → Option ℕ) (xs : List Item) (label : ℕ) → ((k : ℕ) → f k ≡ label_found k xs) → stands label xs ≡ false → g label ≡ Some (length xs) → ((k : ℕ) → k ≢ label → g k ≡ f k) → (k : ℕ) (b : Bool) → eqb label k ≡ b → g k ≡ label_found k (xs ++ items.Label label ∷ [])
new_cases f g xs label all no_one here apart k true e =
    let same : label ≡ k = eqb-true label k e in
    subst (λ (l : ℕ). g l ≡ label_found l (xs ++ items.Label label ∷ [])) same (here ∙ sym (found_new label xs (items.Label label) (eq-eqb label label refl) no_one))
new_cases f g xs label all no_one here apart k false e = apart k (λ same. eqb-false label k e (sym same)) ∙ all k ∙ sym (found_same k xs (items.Label label) (λ h. absurd (false≢true (sym e ∙ h))))

pub noted_new : (f g : ℕ → Option ℕ) (xs : List Item) (label number : ℕ) → ((k : ℕ) → f k ≡ label_found k xs) → is_some (f label) ≡ false → number ≡ length xs → g label ≡ Some number → ((k : ℕ) → k ≢ label → g k ≡ f k) → (k : ℕ) → g k ≡ label_found k (xs ++ items.Label label ∷ [])
noted_new f g xs label number all absent e here apart k =
    new_cases f g xs label all (stands_as label xs false (sym absent ∙ ap is_some (all label))) (here ∙ ap (λ (n : ℕ). Some n) e) apart k (eqb label k) refl
