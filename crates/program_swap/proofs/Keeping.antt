-- Each step keeps the rule of the board.
use Rattle.std.proofs.Common.{◌≡◌, ℕ, ◌≢◌, List, [], ◌∷◌, ◌++◌, set, refl, sym, ap, subst, ◌∙◌, ⊎_elim, append_assoc, Option, Some, None}
use Rattle.std.proofs.lemmas.List.{append-nil}
use mathlib.Core.Option.{some}
use mathlib.Core.List.{IsPrefix}
use lib.ListN.{get_elem?}
use Rattle.left_right.specs.Register.{Admits, Turns, TurnsAt, Forks, Merges}
use Rattle.atomic_table.proofs.Lists.{at_set, at_snoc}
use Rattle.filter_core.specs.declared.install.Install.{Install}
use Rattle.program_swap.specs.Histories.{History, HasLast}
use Rattle.program_swap.specs.Board.{GrowsTo, IsAhead, KnowsNew, KnowsRead, ReadsOn}

pub prefix_self : {A : Type 0} (xs : List A) → IsPrefix xs xs
prefix_self xs = ([], append-nil xs)

pub prefix_trans : {A : Type 0} (xs ys zs : List A) → IsPrefix xs ys → IsPrefix ys zs → IsPrefix xs zs
prefix_trans xs ys zs p q = (p.0 ++ q.0, sym (append_assoc xs p.0 q.0) ∙ (ap (λ w. w ++ q.0) p.1 ∙ q.1))

pub begins_self : (s : History) → GrowsTo s s
begins_self s = (refl, prefix_self s.installs)

pub begins_trans : (s t u : History) → GrowsTo s t → GrowsTo t u → GrowsTo s u
begins_trans s t u p q = (p.0 ∙ q.0, prefix_trans s.installs t.installs u.installs p.1 q.1)

-- a view that begins the published history may be set
pub keeps_set : (x : History) (views : List (Option History)) (seat : ℕ) (v : Option History) → IsAhead x views → ((s : History) → v ≡ Some s → GrowsTo s x) → IsAhead x (set views seat v)
keeps_set x views seat v h fits j s e =
    ⊎_elim (λ (t : (j ≡ seat) × (v ≡ Some s)). fits s t.1) (λ (t : (j ≢ seat) × (get_elem? views j ≡ some (Some s))). h j s t.1) (at_set views seat j v (Some s) e)

pub keeps_grow : (x y : History) (views : List (Option History)) → GrowsTo x y → IsAhead x views → IsAhead y views
keeps_grow x y views up h j s e = begins_trans s x y (h j s e) up

-- a view that begins the published history may come
pub keeps_snoc : (x : History) (views : List (Option History)) (v : Option History) → IsAhead x views → ((s : History) → v ≡ Some s → GrowsTo s x) → IsAhead x (views ++ v ∷ [])
keeps_snoc x views v h fits j s e = ⊎_elim (λ (t : get_elem? views j ≡ some (Some s)). h j s t) (λ (same : v ≡ Some s). fits s same) (at_snoc views v (Some s) j e)

pub admits : Admits IsAhead None
admits x views h = keeps_snoc x views None h (λ s e. absurd (cc e))

some_is : (x s : History) → Some x ≡ Some s → GrowsTo s x
some_is x s e = subst (λ (t : History). GrowsTo t x) (cc e) (begins_self x)

pub publishes : (seat : ℕ) (v : Option History) (x y : History) → GrowsTo x y → TurnsAt IsAhead seat v x y KnowsNew
publishes seat v x y up views h at = (Some y, keeps_set y views seat (Some y) (keeps_grow x y views up h) (some_is y), refl)

pub enters : (seat : ℕ) (v : Option History) → Turns IsAhead seat v (λ x. x) KnowsRead
enters seat v x views h at =
    (Some x, keeps_set x views seat (Some x) h (some_is x), (refl, λ s e. h seat s (subst (λ (u : Option History). get_elem? views seat ≡ some u) e at)))

fits_at : (x : History) (views : List (Option History)) (seat : ℕ) (v : Option History) → IsAhead x views → get_elem? views seat ≡ some v → (s : History) → v ≡ Some s → GrowsTo s x
fits_at x views seat v h at s e = h seat s (subst (λ (u : Option History). get_elem? views seat ≡ some u) e at)

pub forks : (seat : ℕ) (v : Option History) → Forks IsAhead seat v v v
forks seat v x views h at = keeps_snoc x (set views seat v) v (keeps_set x views seat v h (fits_at x views seat v h at)) (fits_at x views seat v h at)

-- the view of the note takes the place of the lane's
pub merges : (seat : ℕ) (v : Option History) (other : ℕ) (w : Option History) → Merges IsAhead seat v other w w None
merges seat v other w x views h at apart there =
    let fits : (s : History) → w ≡ Some s → GrowsTo s x = ⊎_elim (λ (t : (other ≡ seat) × (w ≡ w)). absurd (apart t.0)) (λ (t : (other ≢ seat) × (get_elem? views other ≡ some w)). fits_at x views other w h t.1) (at_set views seat other w w there) in
    keeps_set x (set views seat w) other None (keeps_set x views seat w h fits) (λ s e. absurd (cc e))

pub follows_self : (v : Option History) → ReadsOn v v
follows_self v s e = (s, e, begins_self s)

pub follows_trans : (u v w : Option History) → ReadsOn u v → ReadsOn v w → ReadsOn u w
follows_trans u v w p q s e =
    let t = p s e in
    let r = q t.0 t.1 in
    (r.0, r.1, begins_trans s t.0 r.0 t.2 r.2)

pub enters_follows : (v : Option History) (x y : History) (w : Option History) → KnowsRead v x y w → ReadsOn v w
enters_follows v x y w h s e = (y, h.0, h.1 s e)

pub snoc_some : (xs : List Install) (i : Install) → [] ≡ xs ++ i ∷ [] → ⊥
snoc_some [] i e = cc e
snoc_some (x ∷ xs) i e = cc e

-- a list has one last install
pub ends_once : (before : List Install) (rest : List Install) (i j : Install) → before ++ i ∷ [] ≡ rest ++ j ∷ [] → i ≡ j
ends_once [] [] i j e = cc e
ends_once [] (b ∷ rest) i j e = absurd (snoc_some rest j (cc e))
ends_once (a ∷ before) [] i j e = absurd (snoc_some before i (cc (sym e)))
ends_once (a ∷ before) (b ∷ rest) i j e = ends_once before rest i j (cc e)

pub ends_same : (log : List Install) (i j : Install) → HasLast log i → HasLast log j → i ≡ j
ends_same log i j p q = ends_once p.0 q.0 i j (sym p.1 ∙ q.1)

-- what is read goes on from what the lane had
pub begins_read : (s t : History) (v w : Option History) → ReadsOn (Some s) v → ReadsOn v w → w ≡ Some t → GrowsTo s t
begins_read s t v w p q e =
    let r = follows_trans (Some s) v w p q s refl in
    subst (λ (u : History). GrowsTo s u) (cc (sym r.1 ∙ e)) r.2

pub follows_read : (t : History) (w : Option History) → w ≡ Some t → ReadsOn (Some t) w
follows_read t w e s is = (t, e, subst (λ (u : History). GrowsTo u t) (cc is) (begins_self t))
