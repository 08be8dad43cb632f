-- Fragments one behind the other.
use Rattle.std.proofs.Common.{◌≡◌, ℕ, ◌+◌, ◌<◌, ◌≤◌, Bool, true, false, eqb, List, [], ◌∷◌, ◌++◌, length, refl, sym, ap, subst, append_assoc, arith}
use Rattle.std.specs.Prelude.{◌||◌}
use Rattle.std.proofs.lemmas.Bool.Decides.{nat_tests}
use Rattle.std.proofs.lemmas.List.{length-append}
use Rattle.std.proofs.lemmas.List.Sums.{sum_by-append, sum_by-cons}
use Rattle.apf_coding.specs.Meaning.{State}
use Rattle.apf_asm.specs.declared.item.Item.{Item}
use Rattle.apf_asm.specs.declared.item.Item.TheVariants as items
use Rattle.apf_asm.specs.Flow.{flow}
use Rattle.apf_asm.specs.Layout.{wide_size, wide_length}
use Rattle.apf_asm.specs.Refusals.{stands}
use Rattle.apf_coding.specs.Said.{Said, Missing, Says, Silent}
use Rattle.apf_asm.specs.Saying.{End, flow_end, with_registers, FollowsSaid, IsReady, TellsSaid}
use Rattle.apf_asm.specs.Fragment.{IsApart, AreFresh, IsFragment, IsPart, labels}
use Rattle.apf_asm.proofs.Forms.{IsSound, sound-of, sound-append, labels-append, forms_of, label_form_of, land_of}
use Rattle.apf_coding.proofs.Language.{Language, said_first}
use Rattle.apf_asm.proofs.Rules.{Yields, joined_said}
use Rattle.apf_asm.proofs.Steps.{on}

-- ---- what items say, one behind the other

still_ready : (n : ℕ) (frame : List ℕ) (age : ℕ) (m : State) (r0 r1 : ℕ) → IsReady n frame age m → IsReady n frame age (with_registers r0 r1 m)
still_ready n frame age m r0 r1 ready = record { long = ready.long; bytes = ready.bytes; slots = ready.slots; memory = ready.memory }

-- registers are no part of what is said of a machine
same_base : (a : Said) (rest : List Item) (n : ℕ) (frame : List ℕ) (m : State) (r0 r1 : ℕ) (end : End) → FollowsSaid a rest n frame (with_registers r0 r1 m) end → FollowsSaid a rest n frame m end
same_base Silent rest n frame m r0 r1 end h = h
same_base Missing rest n frame m r0 r1 end h = h
same_base (Says verdict number) rest n frame m r0 r1 end h = h

pub tells-then : (q p : ℕ → List ℕ → Said) (xs ys : List Item) → ((l : ℕ) → l < 2 → stands l ys ≡ false) → TellsSaid q xs → TellsSaid p ys → TellsSaid (λ age frame. said_first (q age frame) (p age frame)) (xs ++ ys)
tells-then q p xs ys away first second = record {
  tells = λ n frame age m rest ready.
      joined_said n frame m (q age frame) (p age frame) ys rest _ away (λ r0 r1. same_base (p age frame) rest n frame m r0 r1 _ (second.tells n frame age (with_registers r0 r1 m) rest (still_ready n frame age m r0 r1 ready)))
      (subst (λ (items : List Item). FollowsSaid (q age frame) (ys ++ rest) n frame m (on n frame items m)) (sym (append_assoc xs ys rest)) (first.tells n frame age m (ys ++ rest) ready));
}

-- ---- labels

other_label : (l k : ℕ) (b : Bool) → l < k → b ≡ false → (eqb k l) || b ≡ false
other_label l k b lt e = go (eqb k l) refl
  where
    go : (t : Bool) → eqb k l ≡ t → t || b ≡ false
    go true h = absurd (grind (arith, nat_tests))
    go false h = e

-- labels below the first of a fragment don't stand in it
pub fresh-away : (from to l : ℕ) (xs : List Item) → AreFresh from to (labels xs) → l < from → stands l xs ≡ false
unfolding labels stands
fresh-away from to l [] fresh lt = refl
fresh-away from to l (items.Label k ∷ xs) fresh lt =
    let le : from ≤ k = fresh.0 in
    other_label l k (stands l xs) (omega arith) (fresh-away from to l xs fresh.3 lt)
fresh-away from to l (items.Fixed f ∷ xs) fresh lt = fresh-away from to l xs fresh lt
fresh-away from to l (items.Jump j ∷ xs) fresh lt = fresh-away from to l xs fresh lt
fresh-away from to l (items.Byte b ∷ xs) fresh lt = fresh-away from to l xs fresh lt

same_label : (l k : ℕ) (b : Bool) → k < l → b ≡ false → (eqb k l) || b ≡ false
same_label l k b lt e = go (eqb k l) refl
  where
    go : (t : Bool) → eqb k l ≡ t → t || b ≡ false
    go true h = absurd (grind (arith, nat_tests))
    go false h = e

-- nor do labels from the last of a fragment on
pub fresh-above : (from to l : ℕ) (xs : List Item) → AreFresh from to (labels xs) → to ≤ l → stands l xs ≡ false
unfolding labels stands
fresh-above from to l [] fresh le = refl
fresh-above from to l (items.Label k ∷ xs) fresh le =
    let lt : k < to = fresh.1 in
    same_label l k (stands l xs) (omega arith) (fresh-above from to l xs fresh.3 le)
fresh-above from to l (items.Fixed f ∷ xs) fresh le = fresh-above from to l xs fresh le
fresh-above from to l (items.Jump j ∷ xs) fresh le = fresh-above from to l xs fresh le
fresh-above from to l (items.Byte b ∷ xs) fresh le = fresh-above from to l xs fresh le

apart-append : (k : ℕ) (ks ls : List ℕ) → IsApart k ks → IsApart k ls → IsApart k (ks ++ ls)
apart-append k [] ls h g = g
apart-append k (i ∷ ks) ls h g = (h.0, apart-append k ks ls h.1 g)

apart-below : (k mid to : ℕ) (ls : List ℕ) → k < mid → AreFresh mid to ls → IsApart k ls
apart-below k mid to [] lt fresh = tt
apart-below k mid to (l ∷ ls) lt fresh = let le : mid ≤ l = fresh.0 in ((λ e. absurd (omega arith)), apart-below k mid to ls lt fresh.3)

fresh-lower : (from mid to : ℕ) (ls : List ℕ) → from ≤ mid → AreFresh mid to ls → AreFresh from to ls
fresh-lower from mid to [] le fresh = tt
fresh-lower from mid to (l ∷ ls) le fresh = let above : mid ≤ l = fresh.0 in (omega arith, fresh.1, fresh.2, fresh-lower from mid to ls le fresh.3)

-- a label that was drawn before others stands behind them
pub fresh-over : (l to : ℕ) (ks : List ℕ) → l < to → AreFresh (l + 1) to ks → AreFresh l to (ks ++ (l ∷ []))
fresh-over l to [] lt fresh = (omega arith, lt, tt, tt)
fresh-over l to (k ∷ ks) lt fresh =
    let above : l + 1 ≤ k = fresh.0 in
    (omega arith, fresh.1, apart-append k ks (l ∷ []) fresh.2 ((λ e. absurd (omega arith)), tt), fresh-over l to ks lt fresh.3)

fresh-join : (from mid to : ℕ) (ks ls : List ℕ) → from ≤ mid → mid ≤ to → AreFresh from mid ks → AreFresh mid to ls → AreFresh from to (ks ++ ls)
fresh-join from mid to [] ls le ge f g = fresh-lower from mid to ls le g
fresh-join from mid to (k ∷ ks) ls le ge f g =
    let lt : k < mid = f.1 in
    (f.0, omega arith, apart-append k ks ls f.2 (apart-below k mid to ls lt g), fresh-join from mid to ks ls le ge f.3 g)

apart-above : (from mid k : ℕ) (ls : List ℕ) → mid ≤ k → AreFresh from mid ls → IsApart k ls
apart-above from mid k [] le fresh = tt
apart-above from mid k (l ∷ ls) le fresh = let lt : l < mid = fresh.1 in ((λ e. absurd (omega arith)), apart-above from mid k ls le fresh.3)

fresh-higher : (from mid to : ℕ) (ls : List ℕ) → mid ≤ to → AreFresh from mid ls → AreFresh from to ls
fresh-higher from mid to [] le fresh = tt
fresh-higher from mid to (l ∷ ls) le fresh = let lt : l < mid = fresh.1 in (fresh.0, omega arith, fresh.2, fresh-higher from mid to ls le fresh.3)

-- the first labels are the later ones
fresh-turned : (from mid to : ℕ) (ks ls : List ℕ) → from ≤ mid → mid ≤ to → AreFresh mid to ks → AreFresh from mid ls → AreFresh from to (ks ++ ls)
fresh-turned from mid to [] ls le ge f g = fresh-higher from mid to ls ge g
fresh-turned from mid to (k ∷ ks) ls le ge f g =
    let above : mid ≤ k = f.0 in
    (omega arith, f.1, apart-append k ks ls f.2 (apart-above from mid k ls above g), fresh-turned from mid to ks ls le ge f.3 g)

-- ---- sizes

pub wide-append : (xs ys : List Item) → wide_length (xs ++ ys) ≡ wide_length xs + wide_length ys
wide-append xs ys = sum_by-append wide_size xs ys

-- there are no more items than bytes and labels
pub length-items : (xs : List Item) → length xs ≤ wide_length xs + length (labels xs)
unfolding labels
length-items [] = omega arith
length-items (items.Label l ∷ xs) = omega (arith, length-items xs, sum_by-cons wide_size (items.Label l) xs)
length-items (items.Fixed f ∷ xs) = omega (arith, length-items xs, sum_by-cons wide_size (items.Fixed f) xs)
length-items (items.Jump j ∷ xs) = omega (arith, length-items xs, sum_by-cons wide_size (items.Jump j) xs)
length-items (items.Byte b ∷ xs) = omega (arith, length-items xs, sum_by-cons wide_size (items.Byte b) xs)

-- ---- parts

-- sound items are a fragment, by the counts of their labels and bytes
pub fragment-of : (from to most : ℕ) (xs : List Item) → IsSound xs → from ≤ to → AreFresh from to (labels xs) → from + length (labels xs) ≤ to → wide_length xs ≤ most → IsFragment from to most xs
fragment-of from to most xs s rises fresh drawn short = record {
  forms = forms_of xs s.each;
  label_form = label_form_of xs s.each;
  land = land_of xs s.each;
  rises = rises;
  fresh = fresh;
  drawn = drawn;
  short = short;
}

pub sound-fragment : (from to most : ℕ) (xs : List Item) → IsFragment from to most xs → IsSound xs
sound-fragment from to most xs f = sound-of xs f.forms f.label_form f.land

pub fragment-then : (from mid to most more : ℕ) (xs ys : List Item) → IsFragment from mid most xs → IsFragment mid to more ys → IsFragment from to (most + more) (xs ++ ys)
fragment-then from mid to most more xs ys x y =
    fragment-of from to (most + more) (xs ++ ys)
    (sound-append xs ys (sound-fragment from mid most xs x) (sound-fragment mid to more ys y))
    (omega (arith, x.rises, y.rises))
    (subst (λ (ls : List ℕ). AreFresh from to ls) (sym (labels-append xs ys)) (fresh-join from mid to (labels xs) (labels ys) x.rises y.rises x.fresh y.fresh))
    (omega (arith, x.drawn, y.drawn, ap length (labels-append xs ys), length-append (labels xs) (labels ys)))
    (omega (arith, wide-append xs ys, x.short, y.short))

-- the same where the first items have the later labels
pub fragment-turned : (from mid to most more : ℕ) (xs ys : List Item) → IsFragment mid to most xs → IsFragment from mid more ys → IsFragment from to (most + more) (xs ++ ys)
fragment-turned from mid to most more xs ys x y =
    fragment-of from to (most + more) (xs ++ ys)
    (sound-append xs ys (sound-fragment mid to most xs x) (sound-fragment from mid more ys y))
    (omega (arith, x.rises, y.rises))
    (subst (λ (ls : List ℕ). AreFresh from to ls) (sym (labels-append xs ys)) (fresh-turned from mid to (labels xs) (labels ys) y.rises x.rises x.fresh y.fresh))
    (omega (arith, x.drawn, y.drawn, ap length (labels-append xs ys), length-append (labels xs) (labels ys)))
    (omega (arith, wide-append xs ys, x.short, y.short))

pub part-then : (q p : ℕ → List ℕ → Said) (from mid to most more : ℕ) (xs ys : List Item) → 2 ≤ from → IsPart q from mid most xs → IsPart p mid to more ys
    → IsPart (λ age frame. said_first (q age frame) (p age frame)) from to (most + more) (xs ++ ys)
part-then q p from mid to most more xs ys low x y =
    let up : from ≤ mid = x.form.rises in
    record {
      form = fragment-then from mid to most more xs ys x.form y.form;
      tells = tells-then q p xs ys (λ l lt. fresh-away mid to l ys y.form.fresh (omega arith)) x.tells y.tells;
    }

-- the same, in other words
pub part-same : (q p : ℕ → List ℕ → Said) (from to most more : ℕ) (xs : List Item) → ((age : ℕ) (frame : List ℕ) → q age frame ≡ p age frame) → most ≤ more → IsPart q from to most xs → IsPart p from to more xs
part-same q p from to most more xs same le x = record {
  form = fragment-of from to more xs (sound-fragment from to most xs x.form) x.form.rises x.form.fresh x.form.drawn (omega (arith, x.form.short));
  tells = record { tells = λ n frame age m rest ready. subst (λ (said : Said). FollowsSaid said rest n frame m (flow_end (flow (xs ++ rest) n frame m))) (same age frame) (x.tells.tells n frame age m rest ready) };
}

-- from any registers of a machine that stands before a rule, a part yields the ruling that it tells
pub part-yields : {R C : Type 0} (L : Language R C) (question : ℕ → List ℕ → R) (from to most : ℕ) (xs : List Item) → 2 ≤ from → IsPart (λ age frame. L.said (question age frame)) from to most xs
    → (n : ℕ) (frame : List ℕ) (age : ℕ) (m : State) → IsReady n frame age m → (r0 r1 : ℕ) → Yields L n frame m r0 r1 (question age frame) xs
part-yields L question from to most xs low part n frame age m ready r0 r1 = record {
  flows = λ rest. same_base (L.said (question age frame)) rest n frame m r0 r1 _ (part.tells.tells n frame age (with_registers r0 r1 m) rest (still_ready n frame age m r0 r1 ready));
  away = λ l lt. fresh-away from to l xs part.form.fresh (omega arith);
}
