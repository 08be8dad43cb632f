-- Items dealt to hands in turn, as cards are, and woven back. This project's own words.
use Rattle.std.specs.Prelude.{ℕ, ◌-◌, List, [], ◌∷◌, ◌++◌, zero, suc}

-- what one hand gets: after `wait` items of other hands one item, and then one after each `others` items of other hands
abbrev pub every : {A : Type 0} → ℕ → ℕ → List A → List A
every wait others [] = []
every zero others (x ∷ xs) = x ∷ every others others xs
every (suc wait) others (x ∷ xs) = every wait others xs

-- what each of so many hands gets, of which the first waits for `first` items, the next for one more, and so on
abbrev pub hands : {A : Type 0} → ℕ → ℕ → ℕ → List A → List (List A)
hands first zero others xs = []
hands first (suc more) others xs = every first others xs ∷ hands (suc first) more others xs

-- the items dealt in turn to so many hands, the first item to the first hand: item k, from 1, goes to hand
-- 1 + (k - 1) mod `count`
abbrev pub dealt : {A : Type 0} → ℕ → List A → List (List A)
dealt count xs = hands 0 count (count - 1) xs

-- the first n items of shares: one from each share in turn, round after round, up to a share that has no more
abbrev pub woven : {A : Type 0} → ℕ → List (List A) → List A
woven zero shares = []
woven (suc n) [] = []
woven (suc n) ([] ∷ shares) = []
woven (suc n) ((x ∷ xs) ∷ shares) = x ∷ woven n (shares ++ xs ∷ [])
