-- Shares woven row by row.
use Rattle.std.proofs.Common.{Option, ◌≡◌, ℕ, ◌+◌, ◌-◌, ◌<◌, ◌≤◌, zero, suc, Bool, true, false, cond, ltb, List, [], ◌∷◌, ◌++◌, length, map, take, drop, get_or, refl, sym, ap, ◌∙◌, arith, append_assoc, append-nil, ltb-false, Some, None, inl, inr}
use Rattle.std.proofs.lemmas.Option.{slice_get_within, get_or_from_slice_get, slice_get_cases}
use Rattle.std.specs.Prelude.{slice_get}
use Rattle.std.proofs.lemmas.List.{map-append, take_more, drop_more, drop_all, take_all}
use Rattle.dealt_items.specs.Dealing.{woven}

-- what is left of the shares at a row of a hand: the hands before it have given their item of the row
unfoldable pub queue : {A : Type 0} → ℕ → ℕ → List (List A) → List (List A)
queue row hand parts = map (drop row) (drop hand parts) ++ map (drop (row + 1)) (take hand parts)

pub queue-begin : {A : Type 0} (parts : List (List A)) → queue 0 0 parts ≡ parts
unfolding queue
queue-begin parts = append-nil (map (drop 0) parts) ∙ whole parts
  where
    whole : {A : Type 0} (ps : List (List A)) → map (drop 0) ps ≡ ps
    whole [] = refl
    whole (p ∷ ps) = ap (λ qs. p ∷ qs) (whole ps)

-- the hands behind one, and those before it
abbrev rest : {A : Type 0} → ℕ → ℕ → List (List A) → List (List A)
rest row hand parts = map (drop row) (drop (hand + 1) parts) ++ map (drop (row + 1)) (take hand parts)

queue-hand : {A : Type 0} (row hand : ℕ) (parts : List (List A)) → hand < length parts → queue row hand parts ≡ drop row (get_or parts hand []) ∷ rest row hand parts
unfolding queue
queue-hand row hand parts lt = ap (λ ps. map (drop row) ps ++ map (drop (row + 1)) (take hand parts)) (drop_more parts hand [] lt)

queue-next : {A : Type 0} (row hand : ℕ) (parts : List (List A)) → hand < length parts → rest row hand parts ++ drop (row + 1) (get_or parts hand []) ∷ [] ≡ queue row (hand + 1) parts
unfolding queue
queue-next row hand parts lt =
    append_assoc (map (drop row) (drop (hand + 1) parts)) (map (drop (row + 1)) (take hand parts)) (drop (row + 1) (get_or parts hand []) ∷ [])
    ∙ ap (λ ps. map (drop row) (drop (hand + 1) parts) ++ ps) (sym (map-append (drop (row + 1)) (take hand parts) (get_or parts hand [] ∷ [])))
    ∙ ap (λ ps. map (drop row) (drop (hand + 1) parts) ++ map (drop (row + 1)) ps) (sym (take_more parts hand [] lt))

queue-round : {A : Type 0} (row hand : ℕ) (parts : List (List A)) → length parts ≤ hand → queue row hand parts ≡ queue (row + 1) 0 parts
unfolding queue
queue-round row hand parts past =
    ap (λ ps. map (drop row) ps ++ map (drop (row + 1)) (take hand parts)) (drop_all hand parts past)
    ∙ ap (map (drop (row + 1))) (take_all hand parts past)
    ∙ sym (append-nil (map (drop (row + 1)) parts))

-- the place after a hand and a row
abbrev pub after : ℕ → ℕ → ℕ → ℕ × ℕ
after hand row count = cond (ltb (hand + 1) count) (hand + 1, row) (0, row + 1)

pub queue-after : {A : Type 0} (row hand : ℕ) (parts : List (List A)) (next : ℕ × ℕ) → next ≡ after hand row (length parts) → queue row (hand + 1) parts ≡ queue next.1 next.0 parts
queue-after row hand parts next is = go (ltb (hand + 1) (length parts)) refl is
  where
    go : (b : Bool) → ltb (hand + 1) (length parts) ≡ b → next ≡ cond b (hand + 1, row) (0, row + 1) → queue row (hand + 1) parts ≡ queue next.1 next.0 parts
    go true e n = ap (λ (p : ℕ × ℕ). queue p.1 p.0 parts) (sym n)
    go false e n = queue-round row (hand + 1) parts (ltb-false (hand + 1) (length parts) e) ∙ ap (λ (p : ℕ × ℕ). queue p.1 p.0 parts) (sym n)

-- the next item of a list
drop-item : {A : Type 0} (xs : List A) (row : ℕ) (x : A) → slice_get xs row ≡ Some x → drop row xs ≡ x ∷ drop (row + 1) xs
drop-item xs row x at = drop_more xs row x (slice_get_within xs row x at) ∙ ap (λ y. y ∷ drop (row + 1) xs) (get_or_from_slice_get xs row x x at)

drop-no_item : {A : Type 0} (xs : List A) (row : ℕ) → slice_get xs row ≡ None → drop row xs ≡ []
drop-no_item xs row at = elim (slice_get_cases xs row).1 [
  | inl w ↦ let e : Some w.0 ≡ None = sym w.2 ∙ at in absurd cc
  | inr w ↦ drop_all row xs w.0
]

pub woven-item : {A : Type 0} (n row hand : ℕ) (parts : List (List A)) (x : A) → hand < length parts → slice_get (get_or parts hand []) row ≡ Some x
    → woven (suc n) (queue row hand parts) ≡ x ∷ woven n (queue row (hand + 1) parts)
woven-item n row hand parts x lt at =
    ap (woven (suc n)) (queue-hand row hand parts lt)
    ∙ ap (λ xs. woven (suc n) (xs ∷ rest row hand parts)) (drop-item (get_or parts hand []) row x at)
    ∙ ap (λ ps. x ∷ woven n ps) (queue-next row hand parts lt)

pub woven-no_item : {A : Type 0} (n row hand : ℕ) (parts : List (List A)) → hand < length parts → slice_get (get_or parts hand []) row ≡ None
    → woven n (queue row hand parts) ≡ []
woven-no_item zero row hand parts lt at = refl
woven-no_item (suc n) row hand parts lt at =
    ap (woven (suc n)) (queue-hand row hand parts lt)
    ∙ ap (λ xs. woven (suc n) (xs ∷ rest row hand parts)) (drop-no_item (get_or parts hand []) row at)

-- ---- a loop that weaves

pub weaves-none : {A : Type 0} (none : List A) (n : ℕ) (parts : List (List A)) → none ≡ [] → none ++ woven (n - 0) (queue 0 0 parts) ≡ woven n parts
weaves-none none n parts is =
    let e : n - 0 ≡ n = omega arith in
    ap (λ xs. xs ++ woven (n - 0) (queue 0 0 parts)) is ∙ ap (woven (n - 0)) (queue-begin parts) ∙ ap (λ (k : ℕ). woven k parts) e

pub weaves-stop : {A : Type 0} (done all : List A) (n row hand : ℕ) (parts : List (List A)) (got : Option A) → hand < length parts → got ≡ slice_get (get_or parts hand []) row → got ≡ None
    → done ++ woven n (queue row hand parts) ≡ all → done ≡ all
weaves-stop done all n row hand parts got lt at none so_far = sym (append-nil done) ∙ ap (λ xs. done ++ xs) (sym (woven-no_item n row hand parts lt (sym at ∙ none))) ∙ so_far

pub weaves-more : {A : Type 0} (done more all : List A) (n k row hand count : ℕ) (parts : List (List A)) (got : Option A) (x : A) (next : ℕ × ℕ) → k < n → hand < length parts
    → got ≡ slice_get (get_or parts hand []) row → got ≡ Some x → more ≡ done ++ x ∷ [] → length parts ≡ count → next ≡ after hand row count
    → done ++ woven (n - k) (queue row hand parts) ≡ all → more ++ woven (n - (k + 1)) (queue next.1 next.0 parts) ≡ all
weaves-more done more all n k row hand count parts got x next few lt at some is long goes so_far =
    let left : n - k ≡ suc (n - (k + 1)) = omega arith in
    ap (λ xs. xs ++ woven (n - (k + 1)) (queue next.1 next.0 parts)) is
    ∙ append_assoc done (x ∷ []) (woven (n - (k + 1)) (queue next.1 next.0 parts))
    ∙ ap (λ ps. done ++ x ∷ woven (n - (k + 1)) ps) (sym (queue-after row hand parts next (goes ∙ ap (after hand row) (sym long))))
    ∙ ap (λ xs. done ++ xs) (sym (woven-item (n - (k + 1)) row hand parts x lt (sym at ∙ some)))
    ∙ ap (λ (m : ℕ). done ++ woven m (queue row hand parts)) (sym left)
    ∙ so_far
