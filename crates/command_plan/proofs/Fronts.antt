-- A front of bytes that are written piece by piece.
use Rattle.std.proofs.Common.{◌≡◌, ◌<◌, ◌+◌, ◌++◌, ◌∷◌, [], List, ℕ, Option, length, map, drop, get_or, ap, sym, refl, ◌∙◌, append_assoc, add-one, drop-cons, append-nil, ◌≤◌}
use Rattle.std.proofs.lemmas.List.{drop_all}
use Rattle.std.specs.List.{concat}
use Rattle.std.specs.Io.KnownBytes.{Appends}
use Rattle.std.proofs.KnownBytes.{Appends-trans, Appends-nil}
use Rattle.apf_base.specs.Streams.{AppendsFront}

-- after whole pieces a front of the next was written
pub front_after : (a b c : Option (List ℕ)) (done piece rest all : List ℕ) → Appends a b done → AppendsFront b c piece
    → all ≡ done ++ (piece ++ rest) → AppendsFront a c all
front_after a b c done piece rest all before now parts =
    let front = now.0 in
    let back = now.1 in (
      done ++ front,
      back ++ rest,
      parts ∙ ap (λ l. done ++ (l ++ rest)) now.2 ∙ ap (λ l. done ++ l) (append_assoc front back rest) ∙ sym (append_assoc done front (back ++ rest)),
      Appends-trans a b c done front before now.3,
    )

module _ {P : Type 0} (f : P → List ℕ) (parts : List P) (i : ℕ) (d : P) (piece done total : List ℕ) (a b c : Option (List ℕ)) where
  -- the pieces from a place on are the one there and those behind it
  part_and_rest : i < length parts → piece ≡ f (get_or parts i d) → concat (map f (drop i parts)) ≡ piece ++ concat (map f (drop (i + 1) parts))
  part_and_rest below is =
      let split : drop i parts ≡ get_or parts i d ∷ drop (i + 1) parts = rw (add-one, drop-cons parts i d) refl in
      ap (λ l. concat (map f l)) split ∙ ap (λ x. x ++ concat (map f (drop (i + 1) parts))) (sym is)

  -- one more piece was written
  pub one_more_part : i < length parts → piece ≡ f (get_or parts i d) → Appends a b done → Appends b c piece → total ≡ done ++ concat (map f (drop i parts))
      → (more : List ℕ) × Appends a c more × (total ≡ more ++ concat (map f (drop (i + 1) parts)))
  one_more_part below is before now sum =
      let rest = concat (map f (drop (i + 1) parts)) in
      (done ++ piece, Appends-trans a b c done piece before now, sum ∙ ap (λ l. done ++ l) (part_and_rest below is) ∙ sym (append_assoc done piece rest))

  -- a piece was not written whole
  pub part_fails : i < length parts → piece ≡ f (get_or parts i d) → Appends a b done → AppendsFront b c piece → total ≡ done ++ concat (map f (drop i parts))
      → AppendsFront a c total
  part_fails below is before now sum =
      front_after a b c done piece (concat (map f (drop (i + 1) parts))) total before now (sum ∙ ap (λ l. done ++ l) (part_and_rest below is))

module _ {P : Type 0} (f : P → List ℕ) (parts : List P) (i : ℕ) (done total : List ℕ) (a b : Option (List ℕ)) where
  -- all pieces were written
  pub all_parts : length parts ≤ i → Appends a b done → total ≡ done ++ concat (map f (drop i parts)) → Appends a b total
  all_parts past before sum =
      rw (sum ∙ ap (λ l. done ++ concat (map f l)) (drop_all i parts past) ∙ append-nil done) before

-- three texts written one behind another
module _ (a b c d : Option (List ℕ)) (first second third total : List ℕ) where
  pub third_fails : Appends a b first → Appends b c second → AppendsFront c d third → total ≡ first ++ (second ++ third) → AppendsFront a d total
  third_fails before then now sum =
      front_after a c d (first ++ second) third [] total (Appends-trans a b c first second before then) now
      (sum ∙ sym (append_assoc first second third) ∙ ap (λ l. (first ++ second) ++ l) (sym (append-nil third)))

  pub all_three : Appends a b first → Appends b c second → Appends c d third → total ≡ first ++ (second ++ third) → Appends a d total
  all_three before then now sum = rw sum (Appends-trans a b d first (second ++ third) before (Appends-trans b c d second third then now))

-- the first of more texts
pub first_fails : (a b : Option (List ℕ)) (first rest total : List ℕ) → AppendsFront a b first → total ≡ first ++ rest → AppendsFront a b total
first_fails a b first rest total now sum = front_after a a b [] first rest total (Appends-nil a) now sum
