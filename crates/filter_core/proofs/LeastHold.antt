-- The least hold, as far as a loop has come.
use Rattle.std.proofs.Common.{◌≡◌, ℕ, Option, Some, None, refl, ap, arith}
use Rattle.filter_core.specs.Installs.{lesser}

-- the least of what was seen and what is left
abbrev pub joined : Option ℕ → Option ℕ → Option ℕ
joined None left = left
joined (Some seen) left = Some (lesser seen left)

pub joined_more : (hold : ℕ) (seen left : Option ℕ) → joined (Some (lesser hold seen)) left ≡ joined seen (Some (lesser hold left))
joined_more hold None left = refl
joined_more hold (Some m) None = ap Some (omega arith)
joined_more hold (Some m) (Some k) = ap Some (omega arith)

pub joined-None : (seen : Option ℕ) → joined seen None ≡ seen
joined-None None = refl
joined-None (Some m) = refl
