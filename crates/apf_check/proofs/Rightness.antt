-- The first flaw, one instruction after another.
use Rattle.std.proofs.Common.{◌≡◌, ℕ, ◌+◌, Bool, true, false, cond, List, ◌∷◌, Option, Some, None, refl}
use Rattle.std.specs.Prelude.{not, ◌&&◌, nat_lt}
use Rattle.apf_coding.specs.Jumps.{is_jump}
use Rattle.apf_check.specs.declared.flaw.Flaw.{Flaw}
use Rattle.apf_check.specs.declared.flaw.Flaw.TheVariants.{Extended, Compare, Past, Backward, Inside}
use Rattle.apf_check.specs.Orderly.{Part, is_unknown_ext, is_faulty_compare, target, flaw_of, first_flaw, or_else}

-- ---- an instruction with no flaw

pub record IsRight (n : ℕ) (begins : ℕ → Bool) (p : Part) : Type 0 where
  pub ext : is_unknown_ext p.instruction ≡ false
  pub compare : is_faulty_compare p.instruction ≡ false
  pub reach : is_jump p.instruction.op ≡ true → nat_lt (n + 1) (target p) ≡ false
  pub forward : is_jump p.instruction.op ≡ true → nat_lt (target p) p.end ≡ false
  pub landing : is_jump p.instruction.op ≡ true → (nat_lt (target p) n && not (begins (target p))) ≡ false

none_of : (a b c d e f : Bool) (u v x y z : Flaw) → cond a (Some u) (cond b (Some v) (cond c (cond d (Some x) (cond e (Some y) (cond f (Some z) None))) None)) ≡ None
    → (a ≡ false) × (b ≡ false) × (c ≡ true → d ≡ false) × (c ≡ true → e ≡ false) × (c ≡ true → f ≡ false)
none_of true b c d e f u v x y z h = absurd cc
none_of false true c d e f u v x y z h = absurd cc
none_of false false false d e f u v x y z h = (refl, refl, (λ k. absurd cc), (λ k. absurd cc), (λ k. absurd cc))
none_of false false true true e f u v x y z h = absurd cc
none_of false false true false true f u v x y z h = absurd cc
none_of false false true false false true u v x y z h = absurd cc
none_of false false true false false false u v x y z h = (refl, refl, (λ k. refl), (λ k. refl), (λ k. refl))

pub no_flaw : (n : ℕ) (begins : ℕ → Bool) (p : Part) → flaw_of n begins p ≡ None → IsRight n begins p
unfolding flaw_of
no_flaw n begins p h =
    let all = none_of (is_unknown_ext p.instruction) (is_faulty_compare p.instruction) (is_jump p.instruction.op)
    (nat_lt (n + 1) (target p)) (nat_lt (target p) p.end) (nat_lt (target p) n && not (begins (target p)))
    (Extended p.place) (Compare p.place) (Past p.place) (Backward p.place) (Inside p.place) h in
    record { ext = all.0; compare = all.1; reach = all.2; forward = all.3; landing = all.4 }

none_first : (a b : Option Flaw) → or_else a b ≡ None → (a ≡ None) × (b ≡ None)
none_first (Some x) b h = absurd cc
none_first None b h = (refl, h)

pub no_flaws : (n : ℕ) (begins : ℕ → Bool) (p : Part) (rest : List Part) → first_flaw n begins (p ∷ rest) ≡ None → IsRight n begins p × (first_flaw n begins rest ≡ None)
unfolding first_flaw
no_flaws n begins p rest h =
    let both = none_first (flaw_of n begins p) (first_flaw n begins rest) h in
    (no_flaw n begins p both.0, both.1)
