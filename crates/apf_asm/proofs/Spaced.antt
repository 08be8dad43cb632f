-- The layout from the last item to the first, by how far each item is from the end.
-- All is said of the items that are left and their own layout, since the widths of a suffix are a suffix of the widths: so no lemma asks for lists of equal length.
use Rattle.std.proofs.Common.{◌≡◌, ℕ, suc, ◌+◌, ◌-◌, ◌^◌, ◌<◌, ◌≤◌, Bool, true, false, cond, eqb, eq-eqb, List, [], ◌∷◌, ◌++◌, length, take, drop, get_or, set, replicate, zero, Option, Some, None, refl, sym, ap, ap₂, subst, ◌∙◌, arith}
use Rattle.std.specs.Prelude.{All, ◌||◌}
use Rattle.std.proofs.lemmas.Bool.{eqb-true}
use Rattle.std.proofs.lemmas.Option.{same_Some}
use Rattle.std.proofs.lemmas.List.{length-drop, length-set, length-replicate, drop_all, drop-set}
use Rattle.std.proofs.lemmas.List.Elements.{All-nil, All-cons, All-drop}
use Rattle.apf_coding.proofs.Widths.{least-le}
use Rattle.apf_asm.specs.declared.item.Item.{Item}
use Rattle.apf_asm.specs.declared.item.Item.TheVariants as items
use Rattle.apf_asm.specs.declared.item.Target.{Target}
use Rattle.apf_asm.specs.declared.item.Target.TheVariants as targets
use Rattle.apf_asm.specs.Items.{marks, IsItemForm, item_limit}
use Rattle.apf_asm.specs.Layout.{size, total, total_before, offset, item_offset, item_width, item_widths, item_offsets, beside}
use Rattle.apf_asm.specs.declared.item.AsmError.TheVariants.{Twice}
use Rattle.apf_asm.specs.Fragment.{labels}
use Rattle.apf_asm.specs.Refusals.{stands, target_refused, refused, refused_from, refused_at, refusal}
use Rattle.apf_asm.specs.Labels.{label_at, noted}
use Rattle.apf_asm.specs.Spacing.{code_length, behind_end, apart, label_far, target_far, once, item_far}
use Rattle.apf_asm.proofs.Law.{Leads}
use Rattle.apf_asm.proofs.Lengths.{total-small}
use Rattle.apf_asm.proofs.Whole.{first_none, target_leads}
use Rattle.apf_asm.proofs.Here.{drop_here, take_here, item_there}
use Rattle.apf_asm.proofs.LabelPlaces.{stands-append}
use Rattle.apf_asm.proofs.Settled.{LeadsOf, AllLead, AllApart, away-apart, none_refused}
use Rattle.apf_asm.proofs.Refusing.{refused_more}

-- ---- from an item to its target

before_cases : (b c : Bool) (s t u v n : ℕ) → b || c ≡ true → (c ≡ true → t + v ≡ u) → n ≡ cond b (s + u) v → cond b 0 (s + t) + n ≡ s + u
before_cases true c s t u v n there more is = omega arith
before_cases false c s t u v n there more is = omega (arith, more there)

cut_cases : (b : Bool) (k : ℕ) (x : Item) (rest : List Item) → code_length (drop (cond b 0 (suc k)) (x ∷ rest)) ≡ cond b (size x (item_width x (item_offset x rest (item_widths rest))) + code_length rest) (code_length (drop k rest))
unfolding total item_widths
cut_cases true k x rest = refl
cut_cases false k x rest = refl

before_distance : (l : ℕ) (rest : List Item) → stands l rest ≡ true → total_before l rest (item_widths rest) + code_length (drop (label_at l rest) rest) ≡ code_length rest
unfolding stands label_at total total_before item_widths
before_distance l [] there = absurd cc
before_distance l (x ∷ rest) there =
    before_cases (marks l x) (stands l rest) (size x (item_width x (item_offset x rest (item_widths rest)))) (total_before l rest (item_widths rest)) (code_length rest) (code_length (drop (label_at l rest) rest)) _ there (before_distance l rest) (cut_cases (marks l x) (label_at l rest) x rest)

-- a jump in front of the rest goes to what is so far from the end
record Reaches (rest : List Item) (to : Target) (there : ℕ) : Type 0 where
  pub leads : Leads rest to
  pub order : there ≤ code_length rest
  pub offset_is : offset rest (item_widths rest) to ≡ code_length rest - there + behind_end to

reaches : (rest : List Item) (to : Target) (there : ℕ) → target_far (label_far rest) to ≡ Some there → Reaches rest to there
reaches rest (targets.Label l) there found = go (stands l rest) refl found
  where
    go : (b : Bool) → stands l rest ≡ b → cond b (Some (code_length (drop (label_at l rest) rest))) None ≡ Some there → Reaches rest (targets.Label l) there
    go true h e =
        let sum = before_distance l rest h in
        let same : code_length (drop (label_at l rest) rest) ≡ there = same_Some _ _ e in
        record { leads = h; order = omega arith; offset_is = omega arith }
    go false h e = absurd cc
reaches rest targets.Pass there found =
    let none : 0 ≡ there = same_Some _ _ found in
    record { leads = tt; order = omega arith; offset_is = omega arith }
reaches rest targets.Drop there found =
    let none : 0 ≡ there = same_Some _ _ found in
    record { leads = tt; order = omega arith; offset_is = omega arith }

-- an item in front of the rest, whose target is so far from the end
pub record IsAhead (x : Item) (rest : List Item) (there : ℕ) : Type 0 where
  pub leads : LeadsOf rest x
  pub labels_apart : AllApart (labels rest) → AllApart (labels (x ∷ rest))
  pub order : there ≤ code_length rest
  pub offset_is : item_offset x rest (item_widths rest) ≡ apart x (code_length rest) there

once_cases : (l : ℕ) (rest : List Item) (there : ℕ) → once (label_far rest l) ≡ Some there → (stands l rest ≡ false) × (0 ≡ there)
once_cases l rest there found = go (stands l rest) refl found
  where
    go : (b : Bool) → stands l rest ≡ b → once (cond b (Some (code_length (drop (label_at l rest) rest))) None) ≡ Some there → (stands l rest ≡ false) × (0 ≡ there)
    go true h e = absurd cc
    go false h e = (h, same_Some _ _ e)

ahead : (x : Item) (rest : List Item) (there : ℕ) → item_far (label_far rest) x ≡ Some there → IsAhead x rest there
unfolding labels
ahead (items.Jump j) rest there found =
    let r = reaches rest j.to there found in
    record { leads = r.leads; labels_apart = λ h. h; order = r.order; offset_is = r.offset_is }
ahead (items.Label l) rest there found =
    let p = once_cases l rest there found in
    record { leads = tt; labels_apart = λ h. (away-apart l rest p.0, h); order = omega (arith, p.1); offset_is = refl }
ahead (items.Fixed f) rest there found =
    let none : 0 ≡ there = same_Some _ _ found in
    record { leads = tt; labels_apart = λ h. h; order = omega arith; offset_is = refl }
ahead (items.Byte b) rest there found =
    let none : 0 ≡ there = same_Some _ _ found in
    record { leads = tt; labels_apart = λ h. h; order = omega arith; offset_is = refl }

-- ---- where a target isn't found, the item or a later one is refused

stands_more : (l : ℕ) (xs : List Item) (x : Item) → stands l xs ≡ true → stands l (xs ++ x ∷ []) ≡ true
stands_more l xs x h = stands-append l xs (x ∷ []) ∙ ap (λ (b : Bool). b || stands l (x ∷ [])) h

not_again : (number l : ℕ) (before rest : List Item) → stands l before ≡ true → refused_from number before rest ≡ None → stands l rest ≡ false
unfolding refused_from stands
not_again number l before [] there none = refl
not_again number l before (x ∷ rest) there none =
    let p = first_none (refused number before rest x) (refused_from (number + 1) (before ++ x ∷ []) rest) none in
    other x p.0 (not_again (number + 1) l (before ++ x ∷ []) rest (stands_more l before x there) p.1)
  where
    other : (y : Item) → refused number before rest y ≡ None → stands l rest ≡ false → marks l y || stands l rest ≡ false
    other (items.Label k) fine later = go (eqb k l) refl
      where
        twice : (b : Bool) → b ≡ true → cond b (Some (Twice number k)) None ≡ None → ⊥
        twice true e h = cc
        twice false e h = cc

        go : (b : Bool) → eqb k l ≡ b → b || stands l rest ≡ false
        go true e = absurd (twice (stands k before) (ap (λ (i : ℕ). stands i before) (eqb-true k l e) ∙ there) fine)
        go false e = later
    other (items.Fixed f) fine later = later
    other (items.Jump j) fine later = later
    other (items.Byte b) fine later = later

found_ahead : (l : ℕ) (rest : List Item) → stands l rest ≡ true → label_far rest l ≡ None → ⊥
found_ahead l rest there none = go (stands l rest) there none
  where
    go : (b : Bool) → b ≡ true → cond b (Some (code_length (drop (label_at l rest) rest))) None ≡ None → ⊥
    go true e h = cc
    go false e h = cc

found_once : (l : ℕ) (rest : List Item) → stands l rest ≡ false → once (label_far rest l) ≡ None → ⊥
found_once l rest away none = go (stands l rest) away none
  where
    go : (b : Bool) → b ≡ false → once (cond b (Some (code_length (drop (label_at l rest) rest))) None) ≡ None → ⊥
    go true e h = cc
    go false e h = cc

to_found : (number : ℕ) (before rest : List Item) (to : Target) → target_refused number before rest to ≡ None → target_far (label_far rest) to ≡ None → ⊥
to_found number before rest (targets.Label l) fine none = found_ahead l rest (target_leads number before rest (targets.Label l) fine) none
to_found number before rest targets.Pass fine none = cc
to_found number before rest targets.Drop fine none = cc

found_by : (number : ℕ) (before rest : List Item) (x : Item) → refused number before rest x ≡ None → refused_from (number + 1) (before ++ x ∷ []) rest ≡ None → item_far (label_far rest) x ≡ None → ⊥
unfolding stands
found_by number before rest (items.Label l) fine later none =
    let own : stands l (items.Label l ∷ []) ≡ true = ap (λ (b : Bool). b || false) (eq-eqb l l refl) in
    let here : stands l (before ++ items.Label l ∷ []) ≡ true = stands-append l before (items.Label l ∷ []) ∙ ap (λ (b : Bool). stands l before || b) own ∙ or_true (stands l before) in
    found_once l rest (not_again (number + 1) l (before ++ items.Label l ∷ []) rest here later) none
  where
    or_true : (b : Bool) → b || true ≡ true
    or_true true = refl
    or_true false = refl
found_by number before rest (items.Jump j) fine later none = to_found number before rest j.to fine none
found_by number before rest (items.Fixed f) fine later none = cc
found_by number before rest (items.Byte b) fine later none = cc

item_far-same : (f g : ℕ → Option ℕ) (x : Item) → ((l : ℕ) → f l ≡ g l) → item_far f x ≡ item_far g x
item_far-same f g (items.Jump j) same = target_same j.to
  where
    target_same : (to : Target) → target_far f to ≡ target_far g to
    target_same (targets.Label l) = same l
    target_same targets.Pass = refl
    target_same targets.Drop = refl
item_far-same f g (items.Label l) same = ap once (same l)
item_far-same f g (items.Fixed x) same = refl
item_far-same f g (items.Byte b) same = refl

-- ---- each item of a list that is refused for no cause

none_from : (xs : List Item) (i : ℕ) → refusal xs ≡ None → i ≤ length xs → refused_from i (take i xs) (drop i xs) ≡ None
none_from xs zero ok le = ok
none_from xs (suc i) ok le = next i (none_from xs i ok (omega arith)) (omega arith)
  where
    next : (i : ℕ) → refused_from i (take i xs) (drop i xs) ≡ None → i < length xs → refused_from (suc i) (take (suc i) xs) (drop (suc i) xs) ≡ None
    next i old lt =
        let x = item_there xs i lt in
        let more = (first_none (refused_at xs i x.0) (refused_from (i + 1) (take (i + 1) xs) (drop (i + 1) xs)) (sym (refused_more xs i x.0 lt x.1) ∙ old)).1 in
        let one : i + 1 ≡ suc i = omega arith in
        subst (λ (n : ℕ). refused_from n (take n xs) (drop n xs) ≡ None) one more

-- ---- the layout from an item on

pub length-item_widths : (xs : List Item) → length (item_widths xs) ≡ length xs
unfolding item_widths
length-item_widths [] = refl
length-item_widths (x ∷ xs) = ap suc (length-item_widths xs)

-- what is known of the items from one on, of which the first is so far from the end, and their labels as far as is found
pub record Spaced (xs : List Item) (i : ℕ) (ws os : List ℕ) (found : ℕ → Option ℕ) (here : ℕ) : Type 0 where
  pub inside : i ≤ length xs
  pub widths_long : length ws ≡ length xs
  pub offsets_long : length os ≡ length xs
  pub widths : drop i ws ≡ item_widths (drop i xs)
  pub offsets : drop i os ≡ item_offsets (drop i xs)
  pub here_is : here ≡ code_length (drop i xs)
  pub found_is : (l : ℕ) → found l ≡ label_far (drop i xs) l
  pub leads : AllLead (drop i xs)
  pub labels_apart : AllApart (labels (drop i xs))

pub spaced_start : (xs : List Item) (ws os : List ℕ) (found : ℕ → Option ℕ) → ws ≡ replicate (length xs) 0 → os ≡ replicate (length xs) 0 → ((l : ℕ) → found l ≡ None) → Spaced xs (length xs) ws os found 0
unfolding item_widths item_offsets total stands labels
spaced_start xs ws os found w o none =
    let wl : length ws ≡ length xs = ap length w ∙ length-replicate (length xs) 0 in
    let ol : length os ≡ length xs = ap length o ∙ length-replicate (length xs) 0 in
    let cut = drop_all (length xs) xs (omega arith) in
    record {
      inside = omega arith;
      widths_long = wl;
      offsets_long = ol;
      widths = drop_all (length xs) ws (omega arith) ∙ ap item_widths (sym cut);
      offsets = drop_all (length xs) os (omega arith) ∙ ap item_offsets (sym cut);
      here_is = sym (ap code_length cut);
      found_is = λ l. none l ∙ sym (ap (λ (ys : List Item). label_far ys l) cut);
      leads = subst AllLead (sym cut) tt;
      labels_apart = subst (λ (ys : List Item). AllApart (labels ys)) (sym cut) tt;
    }

no_size : (n : ℕ) → n ≡ 0 + n
no_size n = omega arith

-- the labels that are found with one item more
marked_far : (x : Item) (rest : List Item) (l here : ℕ) → here ≡ code_length rest → noted x here (label_far rest) l ≡ label_far (x ∷ rest) l
unfolding stands label_at total item_widths
marked_far (items.Label k) rest l here is = go (eqb k l)
  where
    go : (b : Bool) → cond b (Some here) (label_far rest l) ≡ cond (b || stands l rest) (Some (code_length (drop (cond b 0 (suc (label_at l rest))) (items.Label k ∷ rest)))) None
    go true = ap (λ (n : ℕ). Some n) (is ∙ no_size (code_length rest))
    go false = refl
marked_far (items.Fixed f) rest l here is = refl
marked_far (items.Jump j) rest l here is = refl
marked_far (items.Byte b) rest l here is = refl

noted-same : (x : Item) (here l : ℕ) (f g : ℕ → Option ℕ) → f l ≡ g l → noted x here f l ≡ noted x here g l
noted-same x here l f g e = ap (λ (o : Option ℕ). cond (marks l x) (Some here) o) e

pub spaced_more : (xs : List Item) (i j : ℕ) (x : Item) (ws os : List ℕ) (found more : ℕ → Option ℕ) (w o here there next : ℕ) → j ≡ i + 1 → Spaced xs j ws os found here → x ≡ get_or xs i x → Some there ≡ item_far found x
    → o ≡ apart x here there → w ≡ item_width x o → ((l : ℕ) → more l ≡ noted x here found l) → next ≡ here + size x w
    → Spaced xs i (set ws i w) (set os i o) more next
unfolding item_widths item_offsets total
spaced_more xs i j x ws os found more w o here there next step s is far offset_is width_is noted_is next_is =
    let rest : List Item = drop (i + 1) xs in
    let lt : i < length xs = omega (arith, s.inside) in
    let cut = drop_here xs i x lt is in
    let old = subst (λ (n : ℕ). Spaced xs n ws os found here) step s in
    let a = ahead x rest there (item_far-same (label_far rest) found x (λ l. sym (old.found_is l)) ∙ sym far) in
    let offset : o ≡ item_offset x rest (item_widths rest) = offset_is ∙ ap (λ (h : ℕ). apart x h there) old.here_is ∙ sym a.offset_is in
    let width : w ≡ item_width x (item_offset x rest (item_widths rest)) = width_is ∙ ap (item_width x) offset in
    record {
      inside = omega arith;
      widths_long = length-set ws i w ∙ s.widths_long;
      offsets_long = length-set os i o ∙ s.offsets_long;
      widths = drop-set ws i w (omega (arith, s.widths_long)) ∙ ap₂ (λ (v : ℕ) (vs : List ℕ). v ∷ vs) width old.widths ∙ sym (ap item_widths cut);
      offsets = drop-set os i o (omega (arith, s.offsets_long)) ∙ ap₂ (λ (v : ℕ) (vs : List ℕ). v ∷ vs) offset old.offsets ∙ sym (ap item_offsets cut);
      here_is = next_is ∙ ap₂ (λ (h v : ℕ). h + size x v) old.here_is width ∙ add_comm (code_length rest) _ ∙ sym (ap code_length cut);
      found_is = λ l. noted_is l ∙ noted-same x here l found (label_far rest) (old.found_is l) ∙ marked_far x rest l here old.here_is ∙ sym (ap (λ (ys : List Item). label_far ys l) cut);
      leads = subst AllLead (sym cut) (a.leads, old.leads);
      labels_apart = subst (λ (ys : List Item). AllApart (labels ys)) (sym cut) (a.labels_apart old.labels_apart);
    }
  where
    add_comm : (m n : ℕ) → m + n ≡ n + m
    add_comm m n = omega arith

-- all items are spaced
pub spaced_end : (xs : List Item) (i : ℕ) (ws os : List ℕ) (found : ℕ → Option ℕ) (here : ℕ) → i ≡ 0 → Spaced xs i ws os found here → refusal xs ≡ None
unfolding stands
spaced_end xs i ws os found here none s =
    let z = subst (λ (n : ℕ). Spaced xs n ws os found here) none s in
    none_refused xs [] 0 z.leads z.labels_apart (λ l there. refl)

-- ---- no sum is too great

pub item_width-le : (x : Item) (o : ℕ) → item_width x o ≤ 4
item_width-le (items.Jump j) o = omega (arith, least-le o, least-le (beside j))
item_width-le (items.Fixed f) o = omega arith
item_width-le (items.Label l) o = omega arith
item_width-le (items.Byte b) o = omega arith

item_widths-le : (xs : List Item) → All (λ w. w ≤ 4) (item_widths xs)
unfolding item_widths
item_widths-le [] = All-nil (λ w. w ≤ 4)
item_widths-le (x ∷ xs) = All-cons (λ w. w ≤ 4) _ _ (item_width-le x _) (item_widths-le xs)

pub code_length-small : (xs : List Item) (i : ℕ) → All IsItemForm xs → length xs ≤ item_limit → code_length (drop i xs) < 2 ^ 40
code_length-small xs i forms few =
    let rest : List Item = drop i xs in
    let small = total-small rest (item_widths rest) (All-drop IsItemForm i xs forms) (item_widths-le rest) in
    let cut = length-drop i xs in
    omega arith

-- ---- one turn of the code

-- what is known of an item whose target was found
pub record Turn (x : Item) (here there : ℕ) : Type 0 where
  pub small : here < 2 ^ 40
  pub order : there ≤ here

pub turn : (xs : List Item) (i j : ℕ) (x : Item) (ws os : List ℕ) (found : ℕ → Option ℕ) (here there : ℕ) → All IsItemForm xs → length xs ≤ item_limit → j ≡ i + 1 → Spaced xs j ws os found here → Some there ≡ item_far found x → Turn x here there
turn xs i j x ws os found here there forms few step s far =
    let rest : List Item = drop j xs in
    let a = ahead x rest there (item_far-same (label_far rest) found x (λ l. sym (s.found_is l)) ∙ sym far) in
    record {
      small = omega (arith, code_length-small xs j forms few, s.here_is);
      order = omega (arith, a.order, s.here_is);
    }

-- an item whose target wasn't found is refused, or a later one
pub turn_refused : (xs : List Item) (i j : ℕ) (x : Item) (ws os : List ℕ) (found : ℕ → Option ℕ) (here : ℕ) → j ≡ i + 1 → Spaced xs j ws os found here → x ≡ get_or xs i x → None ≡ item_far found x → refusal xs ≡ None → ⊥
turn_refused xs i j x ws os found here step s is far ok =
    let lt : i < length xs = omega (arith, s.inside) in
    let old = subst (λ (n : ℕ). Spaced xs n ws os found here) step s in
    let rest : List Item = drop (i + 1) xs in
    let none = first_none (refused_at xs i x) (refused_from (i + 1) (take (i + 1) xs) rest) (sym (refused_more xs i x lt is) ∙ none_from xs i ok (omega arith)) in
    let later : refused_from (i + 1) (take i xs ++ x ∷ []) rest ≡ None = ap (λ (b : List Item). refused_from (i + 1) b rest) (sym (take_here xs i x lt is)) ∙ none.1 in
    found_by i (take i xs) rest x none.0 later (item_far-same (label_far rest) found x (λ l. sym (old.found_is l)) ∙ sym far)

pub none_found : (o : Option ℕ) → ((v : ℕ) → o ≡ Some v → ⊥) → None ≡ o
none_found (Some v) other = absurd (other v refl)
none_found None other = refl
