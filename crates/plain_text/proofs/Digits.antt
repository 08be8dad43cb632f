-- Lower-case hexadecimal digits and their values.
use Rattle.std.proofs.Common.{◌≡◌, ℕ, ◌<◌, Bool, true, ◌&&◌, eqb, ltb, slice_index, Option, Some, None, subst}
use Rattle.std.proofs.lemmas.Bool.{and_parts, eqb-true, ltb-true}
use Rattle.hex.specs.Hex.{lower_digits}

-- the table has the code at its value
unfoldable pub told_of : ℕ → Option ℕ → Bool
told_of c None = true
told_of c (Some v) = eqb (slice_index lower_digits v) c && ltb v 16

pub told_at : (c v : ℕ) (o : Option ℕ) → o ≡ Some v → told_of c o ≡ true → (slice_index lower_digits v ≡ c) × (v < 16)
unfolding told_of
told_at c v None e t = absurd cc
told_at c v (Some w) e t =
    let same : w ≡ v = cc in
    let parts = and_parts (eqb (slice_index lower_digits w) c) (ltb w 16) t in
    subst (λ (x : ℕ). (slice_index lower_digits x ≡ c) × (x < 16)) same (eqb-true _ _ parts.0, ltb-true _ _ parts.1)
