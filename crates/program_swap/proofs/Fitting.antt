-- Answers that name installs of a list, in its order.
use Rattle.std.proofs.Common.{◌≡◌, ℕ, ◌+◌, ◌≤◌, List, [], ◌∷◌, ◌++◌, length, sym, ap, subst, ◌∙◌, arith, length-append, append_assoc}
use mathlib.Core.List.{IsPrefix}
use Rattle.filter_core.specs.declared.install.Install.{Install}
use Rattle.policy_state.specs.declared.basis.Answer.{Answer}
use Rattle.filter_core.specs.Lanes.{RisesFrom}
use Rattle.program_swap.specs.Histories.{RisesByOne, HasLast}
use Rattle.program_swap.specs.Order.{HasInstall, AllHaveInstalls, NoneBelow, NeverFalls, KeepsOrder}
use Rattle.program_swap.proofs.Rising.{rises_end}

pub names_grow : (v w : List Install) (n : ℕ) → IsPrefix v w → HasInstall v n → HasInstall w n
names_grow v w n p h = record {
  before = h.before;
  install = h.install;
  after = h.after ++ p.0;
  stands = sym p.1 ∙ (ap (λ l. l ++ p.0) h.stands ∙ append_assoc h.before (h.install ∷ h.after) p.0);
  number = h.number;
}

pub named_grow : (v w : List Install) (xs : List Answer) → IsPrefix v w → AllHaveInstalls v xs → AllHaveInstalls w xs
named_grow v w [] p h = tt
named_grow v w (x ∷ xs) p h = (names_grow v w x.number p h.0, named_grow v w xs p h.1)

pub named_snoc : (v : List Install) (xs : List Answer) (a : Answer) → AllHaveInstalls v xs → HasInstall v a.number → AllHaveInstalls v (xs ++ a ∷ [])
named_snoc v [] a h n = (n, tt)
named_snoc v (x ∷ xs) a h n = (h.0, named_snoc v xs a h.1 n)

-- what stands in a rising list has its place's number
pub rises_at : (n : ℕ) (before after : List Install) (i : Install) → RisesFrom n (before ++ i ∷ after) → i.number ≡ n + length before
rises_at n [] after i h = omega (arith, h.0)
rises_at n (x ∷ before) after i h = let r = rises_at (n + 1) before after i h.1 in omega (arith, r)

pub names_below : (v : List Install) (n : ℕ) (last : Install) → RisesByOne v → HasLast v last → HasInstall v n → n ≤ last.number
names_below v n last r e h =
    let a : last.number ≡ r.0 + length e.0 = rises_end r.0 e.0 last (subst (RisesFrom r.0) e.1 r.1) in
    let b : h.install.number ≡ r.0 + length h.before = rises_at r.0 h.before h.after h.install (subst (RisesFrom r.0) h.stands r.1) in
    let c : length v ≡ length e.0 + 1 = ap length e.1 ∙ length-append e.0 (last ∷ []) in
    let d : length v ≡ length h.before + length (h.install ∷ h.after) = ap length h.stands ∙ length-append h.before (h.install ∷ h.after) in
    let f : length (h.install ∷ h.after) ≡ length h.after + 1 = omega arith in
    omega (arith, a, b, c, d, f, h.number)

pub least_snoc : (n : ℕ) (xs : List Answer) (a : Answer) → NoneBelow n xs → n ≤ a.number → NoneBelow n (xs ++ a ∷ [])
least_snoc n [] a h le = (le, tt)
least_snoc n (x ∷ xs) a h le = (h.0, least_snoc n xs a h.1 le)

pub falls_snoc : (v : List Install) (last : Install) (xs : List Answer) (a : Answer) → RisesByOne v → HasLast v last → AllHaveInstalls v xs → a.number ≡ last.number → NeverFalls xs → NeverFalls (xs ++ a ∷ [])
falls_snoc v last [] a r e h is f = (tt, tt)
falls_snoc v last (x ∷ xs) a r e h is f =
    (least_snoc x.number xs a f.0 (subst (λ n. x.number ≤ n) (sym is) (names_below v x.number last r e h.0)), falls_snoc v last xs a r e h.1 is f.1)

-- one more answer, by the last install of a longer list
pub fits_next : (v w : List Install) (last : Install) (xs : List Answer) (a : Answer) → IsPrefix v w → RisesByOne w → HasLast w last → a.number ≡ last.number → KeepsOrder v xs → KeepsOrder w (xs ++ a ∷ [])
fits_next v w last xs a p r e is h =
    let named = named_grow v w xs p h.0 in
    let names : HasInstall w a.number = record { before = e.0; install = last; after = []; stands = e.1; number = sym is } in
    (named_snoc w xs a named names, falls_snoc w last xs a r e named is h.1)

pub fits_grow : (v w : List Install) (xs : List Answer) → IsPrefix v w → KeepsOrder v xs → KeepsOrder w xs
fits_grow v w xs p h = (named_grow v w xs p h.0, h.1)

-- in a rising list the number after its install is one more
pub next-rises : (n : ℕ) (before later : List Install) (last next : Install) → RisesFrom n (before ++ next ∷ later) → HasLast before last → next.number ≡ last.number + 1
next-rises n before later last next h end =
    let here : next.number ≡ n + length before = rises_at n before later next h in
    let long : length before ≡ length end.0 + 1 = ap length end.1 ∙ length-append end.0 (last ∷ []) in
    let whole : before ++ next ∷ later ≡ end.0 ++ last ∷ next ∷ later = ap (λ (is : List Install). is ++ next ∷ later) end.1 ∙ append_assoc end.0 (last ∷ []) (next ∷ later) in
    let there : last.number ≡ n + length end.0 = rises_at n end.0 (next ∷ later) last (subst (RisesFrom n) whole h) in
    omega (arith, here, there, long)
