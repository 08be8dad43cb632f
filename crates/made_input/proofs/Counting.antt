-- The numbers from 1 on, and what is written for each.
use Rattle.std.proofs.Common.{◌≡◌, ℕ, zero, suc, ◌+◌, ◌-◌, ◌*◌, ◌<◌, ◌≤◌, List, [], ◌∷◌, ◌++◌, length, sym, ap, ◌∙◌, mul-suc, add_comm, arith}
use Rattle.std.specs.Prelude.{map}
use Rattle.std.specs.List.{flat_map, range_with_len}
use Rattle.std.proofs.lemmas.List.{flat_map_more, length-append, map-append}

pub numbers-more : (a n j : ℕ) → a + n ≡ j → range_with_len a (suc n) ≡ range_with_len a n ++ j ∷ []
numbers-more a zero j e = let same : a ≡ j = omega arith in ap (λ (k : ℕ). k ∷ []) same
numbers-more a (suc n) j e = ap (λ (t : List ℕ). a ∷ t) (numbers-more (a + 1) n j (omega arith))

-- those below a number, and the number
numbers-next : (j : ℕ) → 1 ≤ j → range_with_len 1 (j - 1) ++ j ∷ [] ≡ range_with_len 1 (j + 1 - 1)
numbers-next j le =
    let same : j + 1 - 1 ≡ suc (j - 1) = omega arith in
    sym (ap (range_with_len 1) same ∙ numbers-more 1 (j - 1) j (omega arith))

-- one turn of a loop that writes a piece for each number
pub turn : (f : ℕ → List ℕ) (front : List ℕ) (j : ℕ) → 1 ≤ j → (front ++ flat_map f (range_with_len 1 (j - 1))) ++ f j ≡ front ++ flat_map f (range_with_len 1 (j + 1 - 1))
turn f front j le = flat_map_more f front (range_with_len 1 (j - 1)) j ∙ ap (λ (js : List ℕ). front ++ flat_map f js) (numbers-next j le)

-- what is written for each number of a stretch is no longer than the longest piece, so many times
pub pieces_short : (f : ℕ → List ℕ) (most a n : ℕ) → ((j : ℕ) → j < a + n → length (f j) ≤ most) → length (flat_map f (range_with_len a n)) ≤ most * n
pieces_short f most a zero each = omega arith
pieces_short f most a (suc n) each =
    let first = each a (omega arith) in
    let rest = pieces_short f most (a + 1) n (λ j lt. each j (omega arith)) in
    let split = length-append (f a) (flat_map f (range_with_len (a + 1) n)) in
    let more : most * suc n ≡ most + most * n = mul-suc most n ∙ add_comm (most * n) most in
    omega arith

-- a list of one value for each number
pub map_more : {X : Type 0} (f : ℕ → X) (n : ℕ) → map f (range_with_len 1 (suc n)) ≡ map f (range_with_len 1 n) ++ f (suc n) ∷ []
map_more f n = ap (map f) (numbers-more 1 n (suc n) (omega arith)) ∙ map-append f (range_with_len 1 n) (suc n ∷ [])
