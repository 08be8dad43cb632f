-- Records of which none is expired.
use Rattle.std.proofs.Common.{◌≡◌, Bool, true, false, cond, List, [], ◌∷◌, refl, ap}
use Rattle.std.specs.Prelude.{◌&&◌, filter}
use Rattle.std.specs.List.{list_all}

module _ {X : Type 0} (p : X → Bool) where
  kept_first : (b : Bool) (x : X) (xs : List X) → (b && list_all p xs) ≡ true → (list_all p xs ≡ true → filter p xs ≡ xs) → cond b (x ∷ filter p xs) (filter p xs) ≡ x ∷ xs
  kept_first true x xs all rest = ap (λ (l : List X). x ∷ l) (rest all)
  kept_first false x xs all rest = absurd cc

  -- what all of a list meets leaves it as it is
  pub all_kept : (xs : List X) → list_all p xs ≡ true → filter p xs ≡ xs
  all_kept [] all = refl
  all_kept (x ∷ xs) all = kept_first (p x) x xs all (all_kept xs)
