-- Lists of installs whose numbers rise by one.
use Rattle.std.proofs.Common.{◌≡◌, ℕ, ◌+◌, List, [], ◌∷◌, ◌++◌, length, arith}
use Rattle.filter_core.specs.declared.install.Install.{Install}
use Rattle.filter_core.specs.Lanes.{RisesFrom}

pub rises_snoc : (n : ℕ) (is : List Install) (next : Install) → RisesFrom n is → next.number ≡ n + length is → RisesFrom n (is ++ next ∷ [])
rises_snoc n [] next h e = (omega (arith, e), tt)
rises_snoc n (i ∷ is) next h e = (h.0, rises_snoc (n + 1) is next h.1 (omega (arith, e)))
