-- A line with another number of operands than its form has.
use Rattle.std.proofs.Common.{◌≡◌, ◌≢◌, ℕ, ◌<◌, List, [], ◌∷◌, length, Option, None, refl, arith}
use Rattle.std.specs.Prelude.{map}
use Rattle.apf_asm.specs.declared.item.Item.{Item}
use Rattle.apf_asm.specs.TextReading.{none, one, two, two_or_three, three}

pub none-map : {X : Type 0} (f : X → List ℕ) (xs : List X) (read : Option Item) → 0 < length xs → none (map f xs) read ≡ None
none-map f [] read lt = absurd (omega arith)
none-map f (a ∷ xs) read lt = refl

pub one-map : {X : Type 0} (f : X → List ℕ) (xs : List X) (read : List ℕ → Option Item) → length xs ≢ 1 → one (map f xs) read ≡ None
one-map f [] read ne = refl
one-map f (a ∷ []) read ne = absurd (ne refl)
one-map f (a ∷ b ∷ xs) read ne = refl

pub two-map : {X : Type 0} (f : X → List ℕ) (xs : List X) (read : List ℕ → List ℕ → Option Item) → length xs ≢ 2 → two (map f xs) read ≡ None
two-map f [] read ne = refl
two-map f (a ∷ []) read ne = refl
two-map f (a ∷ b ∷ []) read ne = absurd (ne refl)
two-map f (a ∷ b ∷ c ∷ xs) read ne = refl

pub three-map : {X : Type 0} (f : X → List ℕ) (xs : List X) (read : List ℕ → List ℕ → List ℕ → Option Item) → length xs ≢ 3 → three (map f xs) read ≡ None
three-map f [] read ne = refl
three-map f (a ∷ []) read ne = refl
three-map f (a ∷ b ∷ []) read ne = refl
three-map f (a ∷ b ∷ c ∷ []) read ne = absurd (ne refl)
three-map f (a ∷ b ∷ c ∷ d ∷ xs) read ne = refl

pub two_or_three-map : {X : Type 0} (f : X → List ℕ) (xs : List X) (short : List ℕ → List ℕ → Option Item) (long : List ℕ → List ℕ → List ℕ → Option Item) → length xs ≢ 2 → length xs ≢ 3 → two_or_three (map f xs) short long ≡ None
two_or_three-map f [] short long n2 n3 = refl
two_or_three-map f (a ∷ []) short long n2 n3 = refl
two_or_three-map f (a ∷ b ∷ []) short long n2 n3 = absurd (n2 refl)
two_or_three-map f (a ∷ b ∷ c ∷ []) short long n2 n3 = absurd (n3 refl)
two_or_three-map f (a ∷ b ∷ c ∷ d ∷ xs) short long n2 n3 = refl
