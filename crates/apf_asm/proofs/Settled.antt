-- Items whose jumps lead on, and whose labels stand once, are refused for no label.
use Rattle.std.proofs.Common.{ap, ◌∙◌, ◌≡◌, ℕ, ◌+◌, ◌<◌, Bool, true, false, cond, eqb, List, [], ◌∷◌, ◌++◌, Option, Some, None, refl, sym, subst, ◌∙◌, inl, inr}
use Rattle.std.specs.Prelude.{◌||◌}
use Rattle.std.proofs.lemmas.Bool.{false≢true, eqb-true, eqb-false, eq-eqb}
use Rattle.apf_asm.specs.declared.item.Item.{Item}
use Rattle.apf_asm.specs.declared.item.Item.TheVariants as items
use Rattle.apf_asm.specs.declared.item.Target.{Target}
use Rattle.apf_asm.specs.declared.item.Target.TheVariants as targets
use Rattle.apf_asm.specs.declared.item.AsmError.{AsmError}
use Rattle.apf_asm.specs.Items.{marks}
use Rattle.apf_asm.specs.Refusals.{stands, target_refused, refused, first, refused_from}
use Rattle.apf_asm.specs.Fragment.{Lands, LandsOf, IsApart, labels}
use Rattle.apf_asm.proofs.Law.{Leads}
use Rattle.apf_asm.proofs.Forms.{AllSound, stands-more, stands-later}
use Rattle.apf_asm.proofs.Rules.{stands-both}

-- ---- labels

-- each jump goes to an end, or to a label that stands behind it
abbrev pub LeadsOf : List Item → Item → Type 0
LeadsOf rest (items.Jump j) = Leads rest j.to
LeadsOf rest (items.Fixed f) = Unit {0}
LeadsOf rest (items.Label l) = Unit {0}
LeadsOf rest (items.Byte b) = Unit {0}

abbrev pub AllLead : List Item → Type 0
AllLead [] = Unit {0}
AllLead (item ∷ rest) = LeadsOf rest item × AllLead rest

abbrev pub AllApart : List ℕ → Type 0
AllApart [] = Unit {0}
AllApart (l ∷ ls) = IsApart l ls × AllApart ls

or_left : (b c : Bool) → b ≡ true → (b || c) ≡ true
or_left true c e = refl
or_left false c e = absurd (false≢true e)

or_right : (b c : Bool) → c ≡ true → (b || c) ≡ true
or_right true c e = refl
or_right false c e = e

-- a label that stands apart from others doesn't stand among them
apart-away : (l : ℕ) (xs : List Item) → IsApart l (labels xs) → stands l xs ≡ false
unfolding labels stands
apart-away l [] h = refl
apart-away l (items.Label k ∷ xs) h = go (eqb k l) refl (apart-away l xs h.1)
  where
    go : (t : Bool) → eqb k l ≡ t → stands l xs ≡ false → t || stands l xs ≡ false
    go true e away = absurd (h.0 (eqb-true k l e))
    go false e away = away
apart-away l (items.Fixed f ∷ xs) h = apart-away l xs h
apart-away l (items.Jump j ∷ xs) h = apart-away l xs h
apart-away l (items.Byte b ∷ xs) h = apart-away l xs h

-- and one that doesn't stand among them stands apart
pub away-apart : (l : ℕ) (xs : List Item) → stands l xs ≡ false → IsApart l (labels xs)
unfolding labels stands
away-apart l [] h = tt
away-apart l (items.Label k ∷ xs) h = go (eqb k l) refl h (away-apart l xs)
  where
    go : (t : Bool) → eqb k l ≡ t → t || stands l xs ≡ false → (stands l xs ≡ false → IsApart l (labels xs)) → (k ≡ l → ⊥) × IsApart l (labels xs)
    go true e away later = absurd (false≢true (sym away))
    go false e away later = (eqb-false k l e, later away)
away-apart l (items.Fixed f ∷ xs) h = away-apart l xs h
away-apart l (items.Jump j ∷ xs) h = away-apart l xs h
away-apart l (items.Byte b ∷ xs) h = away-apart l xs h

label_ok : (b : Bool) (e : AsmError) → b ≡ false → cond b (Some e) None ≡ None
label_ok true e h = absurd (false≢true (sym h))
label_ok false e h = refl

jump_ok : (b c : Bool) (e f : AsmError) → b ≡ false → c ≡ true → cond b (Some e) (cond c None (Some f)) ≡ None
jump_ok true c e f h k = absurd (false≢true (sym h))
jump_ok false true e f h k = refl
jump_ok false false e f h k = absurd (false≢true k)

-- no label of the items stands before them
abbrev IsNewTo : List Item → List Item → Type 0
IsNewTo before xs = (l : ℕ) → stands l xs ≡ true → stands l before ≡ false

target_ok : (number : ℕ) (before rest : List Item) (to : Target) → Leads rest to → IsNewTo before rest → target_refused number before rest to ≡ None
target_ok number before rest (targets.Label l) h new = jump_ok (stands l before) (stands l rest) _ _ (new l h) h
target_ok number before rest targets.Pass h new = refl
target_ok number before rest targets.Drop h new = refl

item_ok : (number : ℕ) (before rest : List Item) (item : Item) → LeadsOf rest item → IsNewTo before (item ∷ rest) → refused number before rest item ≡ None
unfolding stands
item_ok number before rest (items.Label l) h new = label_ok (stands l before) _ (new l (or_left (eqb l l) (stands l rest) (eq-eqb l l refl)))
item_ok number before rest (items.Fixed f) h new = refl
item_ok number before rest (items.Byte b) h new = refl
item_ok number before rest (items.Jump j) h new = target_ok number before rest j.to h new

stands-push : (l : ℕ) (xs : List Item) (x : Item) → stands l xs ≡ false → marks l x ≡ false → stands l (xs ++ x ∷ []) ≡ false
unfolding stands
stands-push l xs x e f = stands-both l xs (x ∷ []) e (ap (λ (b : Bool). b || false) f)

abbrev label_list : Item → List ℕ → List ℕ
label_list (items.Label l) ls = l ∷ ls
label_list (items.Fixed f) ls = ls
label_list (items.Jump j) ls = ls
label_list (items.Byte b) ls = ls

not_marked : (l : ℕ) (x : Item) (rest : List Item) → AllApart (label_list x (labels rest)) → stands l rest ≡ true → marks l x ≡ false
not_marked l (items.Label k) rest apart there = go (eqb k l) refl
  where
    go : (t : Bool) → eqb k l ≡ t → t ≡ false
    go true e = absurd (false≢true (sym (apart-away k rest apart.0) ∙ subst (λ (i : ℕ). stands i rest ≡ true) (sym (eqb-true k l e)) there))
    go false e = refl
not_marked l (items.Fixed f) rest apart there = refl
not_marked l (items.Jump j) rest apart there = refl
not_marked l (items.Byte b) rest apart there = refl

labels_cons : (x : Item) (xs : List Item) → AllApart (labels (x ∷ xs)) → AllApart (label_list x (labels xs)) × AllApart (labels xs)
unfolding labels
labels_cons (items.Label l) xs h = (h, h.1)
labels_cons (items.Fixed f) xs h = (h, h)
labels_cons (items.Jump j) xs h = (h, h)
labels_cons (items.Byte b) xs h = (h, h)

both_none : (a b : Option AsmError) → a ≡ None → b ≡ None → first a b ≡ None
both_none None b e f = f
both_none (Some x) b e f = absurd cc

pub none_refused : (xs before : List Item) (number : ℕ) → AllLead xs → AllApart (labels xs) → IsNewTo before xs → refused_from number before xs ≡ None
unfolding refused_from stands
none_refused [] before number lead apart new = refl
none_refused (x ∷ xs) before number lead apart new =
    let split = labels_cons x xs apart in
    both_none _ _ (item_ok number before xs x lead.0 new)
    (none_refused xs (before ++ x ∷ []) (number + 1) lead.1 split.1
    (λ l there. stands-push l before x (new l (or_right (marks l x) (stands l xs) there)) (not_marked l x xs split.0 there)))

-- ---- fragments before items that have the labels of both ends

leads_of : (xs ys : List Item) (to : Target) → Lands xs to → ((l : ℕ) → l < 2 → stands l ys ≡ true) → Leads (xs ++ ys) to
leads_of xs ys (targets.Label l) h both = elim h [ inl lt ↦ stands-later l xs ys (both l lt) | inr e ↦ stands-more l xs ys e ]
leads_of xs ys targets.Pass h both = tt
leads_of xs ys targets.Drop h both = tt

leads_of_item : (xs ys : List Item) (item : Item) → LandsOf xs item → ((l : ℕ) → l < 2 → stands l ys ≡ true) → LeadsOf (xs ++ ys) item
leads_of_item xs ys (items.Jump j) h both = leads_of xs ys j.to h both
leads_of_item xs ys (items.Fixed f) h both = tt
leads_of_item xs ys (items.Label l) h both = tt
leads_of_item xs ys (items.Byte b) h both = tt

pub lead-append : (xs ys : List Item) → AllSound xs → ((l : ℕ) → l < 2 → stands l ys ≡ true) → AllLead ys → AllLead (xs ++ ys)
lead-append [] ys s both lead = lead
lead-append (x ∷ xs) ys s both lead = (leads_of_item xs ys x s.2 both, lead-append xs ys s.3 both lead)
