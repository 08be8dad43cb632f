-- What clap says of a command's further words, where they are plain, by how many it wants.
use Rattle.std.proofs.Common.{◌≡◌, ◌<◌, ◌⊎◌, ℕ, zero, suc, List, [], ◌∷◌, Option, Some, None, length, take, refl, inl, inr, arith}
use Rattle.std.proofs.lemmas.Bool.{ne_eqb}
use Rattle.clap.specs.Walk.{Text}
use Rattle.clap.specs.Simple.{Shape, built_leaf, inherited}
use Rattle.clap.specs.Kinds.{Kinds}
use Rattle.clap.specs.declared.error.kind.ErrorKind.{ErrorKind}
use Rattle.clap.proofs.OnLiterals.{clap_on_literals}
use Rattle.command_line.specs.Lines.{Line, line_of}
use Rattle.command_line.specs.Parses.{leaf, line_in, places, top}
use Rattle.command_line.proofs.PlainWalk.{plain_level, plain_rows}

-- a command below the top one, built
abbrev pub sub : Text → ℕ → Shape
sub name n = built_leaf (inherited top.top (leaf name (take n places)))

-- there is no fault and the words are found as they are, or there is a fault and the words aren't split
abbrev pub Agrees : Kinds → Option Line → Option Line → Type 0
Agrees faults found line = ((faults ≡ []) × (found ≡ line)) ⊎ ((faults ≡ [] → ⊥) × (line ≡ None))

-- clap and the definition agree on the words after the name of a command that n words follow
abbrev pub Meets : Text → ℕ → List Text → Type 0
Meets name n words = Agrees (plain_level (sub name n) words) (line_in (Some (name, plain_rows (sub name n) words))) (line_of name n words)

other_number : (name : Text) (n : ℕ) (words : List Text) → (length words ≡ n → ⊥) → line_of name n words ≡ None
other_number name n words differ = rw (ne_eqb (length words) n differ) refl

is_fault : (k : ErrorKind) (ks : Kinds) → (k ∷ ks ≡ [] → ⊥)
is_fault k ks e = cc

module _ (name : Text) where
  none_meet : (words : List Text) → Meets name 0 words
  unfolding clap_on_literals
  none_meet [] = inl (refl, refl)
  none_meet (a ∷ rest) = inr (is_fault _ _, other_number name 0 (a ∷ rest) (λ e. omega arith))

  one_meets : (words : List Text) → Meets name 1 words
  unfolding clap_on_literals
  one_meets [] = inr (is_fault _ _, refl)
  one_meets (a ∷ []) = inl (refl, refl)
  one_meets (a ∷ b ∷ rest) = inr (is_fault _ _, other_number name 1 (a ∷ b ∷ rest) (λ e. omega arith))

  two_meet : (words : List Text) → Meets name 2 words
  unfolding clap_on_literals
  two_meet [] = inr (is_fault _ _, refl)
  two_meet (a ∷ []) = inr (is_fault _ _, refl)
  two_meet (a ∷ b ∷ []) = inl (refl, refl)
  two_meet (a ∷ b ∷ c ∷ rest) = inr (is_fault _ _, other_number name 2 (a ∷ b ∷ c ∷ rest) (λ e. omega arith))

  three_meet : (words : List Text) → Meets name 3 words
  unfolding clap_on_literals
  three_meet [] = inr (is_fault _ _, refl)
  three_meet (a ∷ []) = inr (is_fault _ _, refl)
  three_meet (a ∷ b ∷ []) = inr (is_fault _ _, refl)
  three_meet (a ∷ b ∷ c ∷ []) = inl (refl, refl)
  three_meet (a ∷ b ∷ c ∷ d ∷ rest) = inr (is_fault _ _, other_number name 3 (a ∷ b ∷ c ∷ d ∷ rest) (λ e. omega arith))

  four_meet : (words : List Text) → Meets name 4 words
  unfolding clap_on_literals
  four_meet [] = inr (is_fault _ _, refl)
  four_meet (a ∷ []) = inr (is_fault _ _, refl)
  four_meet (a ∷ b ∷ []) = inr (is_fault _ _, refl)
  four_meet (a ∷ b ∷ c ∷ []) = inr (is_fault _ _, refl)
  four_meet (a ∷ b ∷ c ∷ d ∷ []) = inl (refl, refl)
  four_meet (a ∷ b ∷ c ∷ d ∷ e ∷ rest) = inr (is_fault _ _, other_number name 4 (a ∷ b ∷ c ∷ d ∷ e ∷ rest) (λ e. omega arith))

  pub meets : (n : ℕ) (words : List Text) → n < 5 → Meets name n words
  meets zero words few = none_meet words
  meets (suc zero) words few = one_meets words
  meets (suc (suc zero)) words few = two_meet words
  meets (suc (suc (suc zero))) words few = three_meet words
  meets (suc (suc (suc (suc zero)))) words few = four_meet words
  meets (suc (suc (suc (suc (suc n))))) words few = absurd (omega arith)
