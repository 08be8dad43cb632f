-- The refusal that going through the items comes to is that of the first item that is refused.
use Rattle.std.proofs.Common.{◌≡◌, ℕ, zero, suc, ◌+◌, ◌<◌, ◌≤◌, List, length, take, drop, Option, Some, None, inl, inr, refl, sym, ap, ◌∙◌, arith}
use Rattle.std.specs.Prelude.{slice_get}
use Rattle.std.proofs.lemmas.Bool.{cases_eq}
use Rattle.std.proofs.lemmas.Option.{slice_get-get_or, get_or_from_slice_get, slice_get_within, same_Some}
use Rattle.apf_asm.specs.declared.item.Item.{Item}
use Rattle.apf_asm.specs.declared.item.AsmError.{AsmError}
use Rattle.apf_asm.specs.Refusals.{first, refused_from, refused_at, refusal, IsFirstRefusal}
use Rattle.apf_asm.proofs.Here.{item_there}
use Rattle.apf_asm.proofs.Refusing.{refused_more, refused_goes_on, refused_ends, refused_all}

abbrev NoneBefore : List Item → ℕ → Type 0
NoneBefore xs i = (k : ℕ) (y : Item) → k < i → slice_get xs k ≡ Some y → refused_at xs k y ≡ None

none_more : (xs : List Item) (i : ℕ) (x : Item) → slice_get xs i ≡ Some x → refused_at xs i x ≡ None → NoneBefore xs i → NoneBefore xs (i + 1)
none_more xs i x there none before k y lt here = elim (cases_eq k i) [
  | inl e ↦
      let same : x ≡ y = same_Some x y (sym there ∙ ap (slice_get xs) (sym e) ∙ here) in
      ap (λ (n : ℕ). refused_at xs n y) e ∙ ap (refused_at xs i) (sym same) ∙ none
  | inr ne ↦ before k y (omega (arith, ne)) here
]

turn : (xs : List Item) (e : AsmError) (i : ℕ) (x : Item) → slice_get xs i ≡ Some x → NoneBefore xs i → (NoneBefore xs (i + 1) → refused_from (i + 1) (take (i + 1) xs) (drop (i + 1) xs) ≡ Some e → IsFirstRefusal xs e)
    → (o : Option AsmError) → refused_at xs i x ≡ o → first o (refused_from (i + 1) (take (i + 1) xs) (drop (i + 1) xs)) ≡ Some e → IsFirstRefusal xs e
turn xs e i x there before later (Some error) wrong h = record { number = i; item = x; here = there; wrong = wrong ∙ h; before = before }
turn xs e i x there before later None wrong h = later (none_more xs i x there wrong before) h

find : (xs : List Item) (e : AsmError) (left i : ℕ) → i + left ≡ length xs → NoneBefore xs i → refused_from i (take i xs) (drop i xs) ≡ Some e → IsFirstRefusal xs e
find xs e zero i all before h = let contradiction = sym (refused_all xs i (omega arith)) ∙ h in absurd cc
find xs e (suc left) i all before h =
    let x = item_there xs i (omega arith) in
    let there : slice_get xs i ≡ Some x.0 = slice_get-get_or xs i x.0 (omega arith) ∙ ap (λ (y : Item). Some y) (sym x.1) in
    turn xs e i x.0 there before (find xs e left (i + 1) (omega arith)) (refused_at xs i x.0) refl (sym (refused_more xs i x.0 (omega arith) x.1) ∙ h)

pub refusal_first : (xs : List Item) (e : AsmError) → refusal xs ≡ Some e → IsFirstRefusal xs e
refusal_first xs e h = find xs e (length xs) 0 (omega arith) (λ k y lt there. absurd (omega arith)) h

passed : (xs : List Item) (i : ℕ) → i ≤ length xs → NoneBefore xs i → refusal xs ≡ refused_from i (take i xs) (drop i xs)
passed xs zero le before = refl
passed xs (suc i) le before =
    let x = item_there xs i (omega arith) in
    let there : slice_get xs i ≡ Some x.0 = slice_get-get_or xs i x.0 (omega arith) ∙ ap (λ (y : Item). Some y) (sym x.1) in
    let next : i + 1 ≡ suc i = omega arith in
    passed xs i (omega arith) (λ k y lt here. before k y (omega arith) here)
    ∙ refused_goes_on xs i x.0 (omega arith) x.1 (before i x.0 (omega arith) there)
    ∙ ap (λ (n : ℕ). refused_from n (take n xs) (drop n xs)) next

pub first_refusal : (xs : List Item) (e : AsmError) → IsFirstRefusal xs e → refusal xs ≡ Some e
first_refusal xs e f =
    let lt = slice_get_within xs f.number f.item f.here in
    passed xs f.number (omega arith) f.before ∙ refused_ends xs f.number f.item e lt (sym (get_or_from_slice_get xs f.number f.item f.item f.here)) f.wrong
