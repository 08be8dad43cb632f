-- Lines that are written one for each number of a stretch.
use Rattle.std.proofs.Common.{◌≡◌, ◌≤◌, ◌+◌, ◌-◌, ◌∷◌, [], ℕ, suc, List, map, Result, Ok, Err, ap, sym, ◌∙◌, subst, arith}
use Rattle.std.specs.List.{range_with_len}
use Rattle.command_plan.specs.declared.fault.Fault.{Fault}
use Rattle.command_plan.specs.Follows.{Sinking, Writes}
use Rattle.command_plan.specs.Plan.{says}
use Rattle.command_plan.proofs.Saying.{says_more, says_broken, says_none}

-- the lines that were written are the ones that were to be
pub said_as : (lines due : List (List ℕ)) (a b : Sinking) (r : Result (Unit {0}) Fault) → lines ≡ due → Writes (says lines) a b r → Writes (says due) a b r
said_as lines due a b r is h = subst (λ (l : List (List ℕ)). Writes (says l) a b r) is h

-- a line that is known to be this
pub line_as : (line due : List ℕ) (a b : Sinking) (r : Result (Unit {0}) Fault) → line ≡ due → Writes (says (line ∷ [])) a b r → Writes (says (due ∷ [])) a b r
line_as line due a b r is h = said_as (line ∷ []) (due ∷ []) a b r (ap (λ (l : List ℕ). l ∷ []) is) h

module _ (f : ℕ → List ℕ) (n : ℕ) where
  -- the lines of the numbers from this one to the last
  abbrev pub From : ℕ → List (List ℕ)
  From j = map f (range_with_len j (n + 1 - j))

  module _ (a b : Sinking) (r : Result (Unit {0}) Fault) where
    pub all_numbers : Writes (says (From 1)) a b r → Writes (says (map f (range_with_len 1 n))) a b r
    all_numbers h = let same : n + 1 - 1 ≡ n = omega arith in subst (λ (m : ℕ). Writes (says (map f (range_with_len 1 m))) a b r) same h

    module _ (j : ℕ) (line : List ℕ) (le : j ≤ n) (is : line ≡ f j) where
      and_rest : line ∷ From (j + 1) ≡ From j
      and_rest =
          let same : n + 1 - j ≡ suc (n + 1 - (j + 1)) = omega arith in
          ap (λ (l : List ℕ). l ∷ From (j + 1)) is ∙ sym (ap (λ (m : ℕ). map f (range_with_len j m)) same)

      pub number_said : (c : Sinking) → Writes (says (line ∷ [])) a c (Ok tt) → Writes (says (From (j + 1))) c b r → Writes (says (From j)) a b r
      number_said c first more = subst (λ (l : List (List ℕ)). Writes (says l) a b r) and_rest (says_more a b (line ∷ []) (From (j + 1)) c r first more)

      pub number_unsaid : (fault : Fault) → Writes (says (line ∷ [])) a b (Err fault) → r ≡ Err fault → Writes (says (From j)) a b r
      number_unsaid fault first e = subst (λ (l : List (List ℕ)). Writes (says l) a b r) and_rest (says_broken a b (line ∷ []) (From (j + 1)) r fault first e)

  pub no_numbers : (j : ℕ) (a : Sinking) → n + 1 ≤ j → Writes (says (From j)) a a (Ok tt)
  no_numbers j a past = let none : n + 1 - j ≡ 0 = omega arith in says_none (From j) a (ap (λ (m : ℕ). map f (range_with_len j m)) none)
