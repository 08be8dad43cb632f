-- What was dealt is woven back.
use Rattle.std.proofs.Common.{◌≡◌, ℕ, ◌+◌, ◌-◌, ◌*◌, ◌/◌, ◌%◌, ◌<◌, get_or, zero, suc, List, [], ◌∷◌, ◌++◌, length, map, refl, sym, ap, subst, ◌∙◌, arith}
use Rattle.std.proofs.lemmas.List.{map-append}
use Rattle.std.proofs.Math.Nat.{mod-add-div'}
use Rattle.std.specs.Prelude.{sum_by, slice_get}
use Rattle.std.proofs.lemmas.List.Sums.{sum_by-cons, sum_by_push}
use Rattle.dealt_items.specs.Dealing.{every, hands, dealt, woven}

-- after its first item the list is dealt to the hands that follow
hands-cons : {A : Type 0} (first n others : ℕ) (x : A) (xs : List A) → hands (suc first) n others (x ∷ xs) ≡ hands first n others xs
hands-cons first zero others x xs = refl
hands-cons first (suc n) others x xs = ap (λ hs. every first others xs ∷ hs) (hands-cons (suc first) n others x xs)

-- one hand more
pub hands-snoc : {A : Type 0} (first n others last : ℕ) (xs : List A) → first + n ≡ last → hands first (suc n) others xs ≡ hands first n others xs ++ every last others xs ∷ []
hands-snoc first zero others last xs e = let same : first ≡ last = omega arith in ap (λ (k : ℕ). every k others xs ∷ []) same
hands-snoc first (suc n) others last xs e = ap (λ hs. every first others xs ∷ hs) (hands-snoc (suc first) n others last xs (omega arith))

woven-hands : {A : Type 0} (others : ℕ) (xs : List A) → woven (length xs) (hands 0 (suc others) others xs) ≡ xs
woven-hands others [] = refl
woven-hands {A = A} others (x ∷ xs) =
    ap (λ (hs : List (List A)). x ∷ woven (length xs) (hs ++ every others others xs ∷ [])) (hands-cons 0 others others x xs)
    ∙ ap (λ (hs : List (List A)). x ∷ woven (length xs) hs) (sym (hands-snoc 0 others others others xs (omega arith)))
    ∙ ap (λ (ys : List A). x ∷ ys) (woven-hands others xs)

-- weaving what was dealt is the list
pub woven-dealt : {A : Type 0} (count : ℕ) (xs : List A) → 0 < count → woven (length xs) (dealt count xs) ≡ xs
woven-dealt zero xs some = absurd (omega arith)
woven-dealt (suc others) xs some =
    let e : others ≡ suc others - 1 = omega arith in
    subst (λ (o : ℕ). woven (length xs) (hands 0 (suc others) o xs) ≡ xs) e (woven-hands others xs)

-- a function of each item may be taken before or after
pub woven-map : {A B : Type 0} (f : A → B) (n : ℕ) (shares : List (List A)) → woven n (map (map f) shares) ≡ map f (woven n shares)
woven-map f zero shares = refl
woven-map f (suc n) [] = refl
woven-map f (suc n) ([] ∷ shares) = refl
woven-map {B = B} f (suc n) ((x ∷ xs) ∷ shares) =
    ap (λ (ss : List (List B)). f x ∷ woven n ss) (sym (map-append (map f) shares (xs ∷ [])))
    ∙ ap (λ (ys : List B). f x ∷ ys) (woven-map f n (shares ++ xs ∷ []))

hands_of_none : {A : Type 0} (h : A → ℕ) (first n others : ℕ) → sum_by (sum_by h) (hands first n others []) ≡ 0
hands_of_none h first zero others = refl
hands_of_none h first (suc n) others = omega (arith, sum_by-cons (sum_by h) [] (hands (suc first) n others []), hands_of_none h (suc first) n others)

sum-hands : {A : Type 0} (h : A → ℕ) (others : ℕ) (xs : List A) → sum_by (sum_by h) (hands 0 (suc others) others xs) ≡ sum_by h xs
sum-hands h others [] = hands_of_none h 0 (suc others) others
sum-hands {A = A} h others (x ∷ xs) =
    let e0 = sum_by-cons (sum_by h) (x ∷ every others others xs) (hands 1 others others (x ∷ xs)) in
    let e1 = ap (sum_by (sum_by h)) (hands-cons 0 others others x xs) in
    let e2 = sum_by-cons h x (every others others xs) in
    let e3 = ap (sum_by (sum_by h)) (hands-snoc 0 others others others xs (omega arith)) in
    let e4 = sum_by_push (sum_by h) (hands 0 others others xs) (every others others xs) in
    let e5 = sum-hands h others xs in
    let e6 = sum_by-cons h x xs in
    omega (arith, e0, e1, e2, e3, e4, e5, e6)

-- the sums of the shares add up to the sum of the whole
pub sum-dealt : {A : Type 0} (h : A → ℕ) (count : ℕ) (xs : List A) → 0 < count → sum_by (sum_by h) (dealt count xs) ≡ sum_by h xs
sum-dealt h zero xs some = absurd (omega arith)
sum-dealt h (suc others) xs some =
    let e : others ≡ suc others - 1 = omega arith in
    subst (λ (o : ℕ). sum_by (sum_by h) (hands 0 (suc others) o xs) ≡ sum_by h xs) e (sum-hands h others xs)

-- ---- who gets which

every-at : {A : Type 0} (wait others : ℕ) (xs : List A) (row : ℕ) → slice_get (every wait others xs) row ≡ slice_get xs (wait + row * suc others)
every-at wait others [] row = refl
every-at zero others (x ∷ xs) zero = let e : 0 ≡ 0 + 0 * suc others = omega arith in ap (λ (n : ℕ). slice_get (x ∷ xs) n) e
every-at zero others (x ∷ xs) (suc row) =
    let e : suc (others + row * suc others) ≡ 0 + suc row * suc others = omega arith in
    every-at others others xs row ∙ ap (λ (n : ℕ). slice_get (x ∷ xs) n) e
every-at (suc wait) others (x ∷ xs) row =
    let e : suc (wait + row * suc others) ≡ suc wait + row * suc others = omega arith in
    every-at wait others xs row ∙ ap (λ (n : ℕ). slice_get (x ∷ xs) n) e

hands-at : {A : Type 0} (first n others k hand : ℕ) (xs : List A) → k < n → first + k ≡ hand → get_or (hands first n others xs) k [] ≡ every hand others xs
hands-at first zero others k hand xs lt e = absurd (omega arith)
hands-at first (suc n) others zero hand xs lt e = let same : first ≡ hand = omega arith in ap (λ (h : ℕ). every h others xs) same
hands-at first (suc n) others (suc k) hand xs lt e = hands-at (suc first) n others k hand xs (omega arith) (omega arith)

-- item k lies in hand k mod count, at place k / count
pub dealt-at : {A : Type 0} (count k : ℕ) (xs : List A) → 0 < count → slice_get (get_or (dealt count xs) (k % count) []) (k / count) ≡ slice_get xs k
dealt-at zero k xs some = absurd (omega arith)
dealt-at (suc others) k xs some =
    let e : suc others - 1 ≡ others = omega arith in
    let hand : k % suc others < suc others = omega arith in
    let place : k % suc others + k / suc others * suc others ≡ k = mod-add-div' k (suc others) in
    ap (λ (o : ℕ). slice_get (get_or (hands 0 (suc others) o xs) (k % suc others) []) (k / suc others)) e
    ∙ ap (λ ys. slice_get ys (k / suc others)) (hands-at 0 (suc others) others (k % suc others) (k % suc others) xs hand (omega arith))
    ∙ every-at (k % suc others) others xs (k / suc others)
    ∙ ap (λ (n : ℕ). slice_get xs n) place

-- ---- how many

length-hands : {A : Type 0} (first n others : ℕ) (xs : List A) → length (hands first n others xs) ≡ n
length-hands first zero others xs = refl
length-hands first (suc n) others xs = ap suc (length-hands (suc first) n others xs)

-- there are as many shares as hands
pub length-dealt : {A : Type 0} (count : ℕ) (xs : List A) → length (dealt count xs) ≡ count
length-dealt count xs = length-hands 0 count (count - 1) xs
