-- Lists whose numbers rise by one.
use Rattle.std.proofs.Common.{◌≡◌, ℕ, ◌+◌, ◌<◌, ◌≤◌, List, [], ◌∷◌, ◌++◌, length, refl, sym, ap, subst, ◌∙◌, arith, length-append}
use mathlib.Core.List.{IsPrefix}
use Rattle.filter_core.specs.declared.install.Install.{Install}
use Rattle.filter_core.proofs.Rising.{rises_snoc}
use Rattle.filter_core.specs.Lanes.{RisesFrom}
use Rattle.program_swap.specs.Histories.{RisesByOne, HasLast}

pub ends_some : (log : List Install) → 0 < length log → (i : Install) × HasLast log i
ends_some [] h = absurd (omega arith)
ends_some (x ∷ []) h = (x, ([], refl))
ends_some (x ∷ y ∷ log) h =
    let r = ends_some (y ∷ log) (omega arith) in
    (r.0, (x ∷ r.1.0, ap (λ w. x ∷ w) r.1.1))

pub rises_end : (n : ℕ) (before : List Install) (i : Install) → RisesFrom n (before ++ i ∷ []) → i.number ≡ n + length before
rises_end n [] i h = omega (arith, h.0)
rises_end n (x ∷ before) i h = let r = rises_end (n + 1) before i h.1 in omega (arith, r)

-- the next install of a list that rises has the number that its last install says
pub next_number : (n : ℕ) (log : List Install) (next : Install) → RisesFrom n log → 0 < length log → ((last : Install) → HasLast log last → next.number ≡ last.number + 1) → next.number ≡ n + length log
next_number n log next h some is =
    let e = ends_some log some in
    let i = e.0 in
    let a : next.number ≡ i.number + 1 = is i e.1 in
    let b : i.number ≡ n + length e.1.0 = rises_end n e.1.0 i (subst (RisesFrom n) e.1.1 h) in
    let c : length log ≡ length e.1.0 + 1 = ap length e.1.1 ∙ length-append e.1.0 (i ∷ []) in
    omega (arith, a, b, c)

pub rises_next : (log : List Install) (next : Install) → RisesByOne log → 0 < length log → ((last : Install) → HasLast log last → next.number ≡ last.number + 1) → RisesByOne (log ++ next ∷ [])
rises_next log next h some is = (h.0, rises_snoc h.0 log next h.1 (next_number h.0 log next h.1 some is))

-- of two beginnings of one rising list, the one whose last number is no greater begins the other
pub prefix_rises : (n : ℕ) (xs ys : List Install) → IsPrefix xs ys → RisesFrom n ys → RisesFrom n xs
prefix_rises n [] ys p h = tt
prefix_rises n (x ∷ xs) [] p h = absurd (cc p.1)
prefix_rises n (x ∷ xs) (y ∷ ys) p h =
    let same : x ≡ y = cc p.1 in
    (subst (λ (i : Install). i.number ≡ n) (sym same) h.0, prefix_rises (n + 1) xs ys (p.0, cc p.1) h.1)

pub prefix_shorter : {A : Type 0} (xs ys zs : List A) → IsPrefix xs zs → IsPrefix ys zs → length xs ≤ length ys → IsPrefix xs ys
prefix_shorter [] ys zs p q le = (ys, refl)
prefix_shorter (x ∷ xs) [] zs p q le = absurd (omega arith)
prefix_shorter (x ∷ xs) (y ∷ ys) [] p q le = absurd (cc (p.1))
prefix_shorter (x ∷ xs) (y ∷ ys) (z ∷ zs) p q le =
    let heads : x ≡ y = cc (p.1, q.1) in
    let rest = prefix_shorter xs ys zs (p.0, cc (p.1)) (q.0, cc (q.1)) (omega arith) in
    (rest.0, cc (heads, rest.1))

pub shorter_begins : (xs ys zs : List Install) (i j : Install) → RisesByOne zs → IsPrefix xs zs → IsPrefix ys zs → HasLast xs i → HasLast ys j → i.number ≤ j.number → IsPrefix xs ys
shorter_begins xs ys zs i j h p q e f le =
    let n = h.0 in
    let a : i.number ≡ n + length e.0 = rises_end n e.0 i (subst (RisesFrom n) e.1 (prefix_rises n xs zs p h.1)) in
    let b : j.number ≡ n + length f.0 = rises_end n f.0 j (subst (RisesFrom n) f.1 (prefix_rises n ys zs q h.1)) in
    let c : length xs ≡ length e.0 + 1 = ap length e.1 ∙ length-append e.0 (i ∷ []) in
    let d : length ys ≡ length f.0 + 1 = ap length f.1 ∙ length-append f.0 (j ∷ []) in
    prefix_shorter xs ys zs p q (omega (arith, a, b, c, d))
