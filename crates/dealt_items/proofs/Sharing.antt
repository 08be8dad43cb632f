-- How many items a hand is dealt.
use Rattle.std.proofs.Common.{◌≡◌, ℕ, ◌+◌, ◌-◌, ◌*◌, ◌<◌, ◌≤◌, zero, suc, List, [], ◌∷◌, length, refl, ap, subst, arith, inl, inr}
use Rattle.std.proofs.lemmas.Bool.{cases_lt}
use Rattle.std.proofs.Math.Nat.{mul-le-mul_right}
use Rattle.dealt_items.specs.Dealing.{every}

-- a hand's share, in rounds of one item for each hand, is at most the list with the last round filled up
most-every : {A : Type 0} (wait others : ℕ) (xs : List A) → wait ≤ others → length (every wait others xs) * suc others + wait ≤ length xs + others
most-every wait others [] le = omega arith
most-every zero others (x ∷ xs) le = omega (arith, most-every others others xs (omega arith))
most-every (suc wait) others (x ∷ xs) le = omega (arith, most-every wait others xs (omega arith))

-- the list ends before this hand's next turn
least-every : {A : Type 0} (wait others : ℕ) (xs : List A) → length xs ≤ length (every wait others xs) * suc others + wait
least-every wait others [] = omega arith
least-every zero others (x ∷ xs) = omega (arith, least-every others others xs)
least-every (suc wait) others (x ∷ xs) = omega (arith, least-every wait others xs)

-- a share is as long as any other of a list of this length
pub length-every : {A B : Type 0} (wait others : ℕ) (xs : List A) (ys : List B) → length xs ≡ length ys → length (every wait others xs) ≡ length (every wait others ys)
length-every wait others [] [] e = refl
length-every wait others [] (y ∷ ys) e = absurd (omega arith)
length-every wait others (x ∷ xs) [] e = absurd (omega arith)
length-every zero others (x ∷ xs) (y ∷ ys) e = ap suc (length-every others others xs ys (omega arith))
length-every (suc wait) others (x ∷ xs) (y ∷ ys) e = length-every wait others xs ys (omega arith)

-- there is one number of rounds
rounds-one : (share other wait others items : ℕ) → share * suc others + wait ≤ items + others → items ≤ other * suc others + wait → share ≤ other
rounds-one share other wait others items most least = elim (cases_lt other share) [
  | inl more ↦ absurd (omega (arith, most, least, mul-le-mul_right (suc others) more))
  | inr few ↦ few
]

-- a share is a round for each `count` items, and one item more for the hands that the last round reaches
pub length-share : {A : Type 0} (count hand share : ℕ) (xs : List A) → hand < count → share * count + hand < length xs + count → length xs ≤ share * count + hand → length (every hand (count - 1) xs) ≡ share
length-share zero hand share xs lt most least = absurd (omega arith)
length-share (suc others) hand share xs lt most least =
    let same : others ≡ suc others - 1 = omega arith in
    let few = rounds-one (length (every hand others xs)) share hand others (length xs) (most-every hand others xs (omega arith)) least in
    let all = rounds-one share (length (every hand others xs)) hand others (length xs) (omega arith) (least-every hand others xs) in
    let is : length (every hand others xs) ≡ share = omega (arith, few, all) in
    subst (λ (o : ℕ). length (every hand o xs) ≡ share) same is

-- the first hand has the most
pub most-first : {A : Type 0} (count hand : ℕ) (xs : List A) → hand < count → length (every hand (count - 1) xs) ≤ length (every 0 (count - 1) xs)
most-first zero hand xs lt = absurd (omega arith)
most-first (suc others) hand xs lt =
    let same : others ≡ suc others - 1 = omega arith in
    let most = most-every hand others xs (omega arith) in
    let few = rounds-one (length (every hand others xs)) (length (every 0 others xs)) 0 others (length xs) (omega (arith, most)) (least-every 0 others xs) in
    subst (λ (o : ℕ). length (every hand o xs) ≤ length (every 0 o xs)) same few
