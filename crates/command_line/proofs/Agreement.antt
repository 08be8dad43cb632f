-- What clap says of plain words, and what the words are split into.
use Rattle.std.proofs.Common.{◌≡◌, ◌∙◌, ◌==◌, Bool, true, false, true≢false, refl, sym, ap, ap₂, subst, inl, inr, List, [], ◌∷◌, Option, Some, None, if◌then◌else◌}
use Rattle.std.specs.List.{list_all}
use Rattle.std.specs.Option.{option_and_then, option_map}
use Rattle.std.proofs.lemmas.Bool.{eqb-true}
use Rattle.clap.specs.Walk.{Row, Text}
use Rattle.clap.specs.Simple.{subcommand_of}
use Rattle.clap.specs.Kinds.{IsAmong, Kinds}
use Rattle.clap.specs.Faults.{fault_of}
use Rattle.clap.specs.declared.error.kind.ErrorKind.{ErrorKind}
use Rattle.clap.proofs.WalkLemmas.{both}
use Rattle.command_line.specs.Lines.{Line, Usage, is_plain, line_of, split_of, usage_of}
use Rattle.command_line.specs.Parses.{commands, line_in}
use Rattle.command_line.proofs.Leaves.{Agrees, meets, sub}
use Rattle.command_line.proofs.Named.{named_fault, named_found, no_words_fault, unnamed_fault}
use Rattle.command_line.proofs.Table.{has_places, is_sub, met_sub}

abbrev pub Splits : List Text → Type 0
Splits words = Agrees (fault_of commands words) (line_in (subcommand_of commands words)) (split_of words)

agrees_as : (a b : Kinds) (x y l m : Option Line) → a ≡ b → x ≡ y → l ≡ m → Agrees b y m → Agrees a x l
agrees_as a b x y l m faults found line (inl h) = inl (faults ∙ h.0, found ∙ h.1 ∙ sym line)
agrees_as a b x y l m faults found line (inr h) = inr (λ e. h.0 (sym faults ∙ e), line ∙ h.1)

-- ---- by the first word

-- what the words are split into, by the row of the name
abbrev split_by : Text → List Text → Bool → Option Usage → Option Line
split_by name words plain row = if plain then option_and_then (λ u. line_of name u.words words) row else None

module _ (name : Text) (words : List Text) (plain : list_all is_plain words ≡ true) where
  at_row : (u : Usage) → usage_of name ≡ Some u → Splits (name ∷ words)
  at_row u is =
      let s = sub name u.words in
      agrees_as _ _ _ _ _ _ (named_fault name s words (is_sub name u is) plain) (ap line_in (named_found name s words (is_sub name u is) plain))
      (ap₂ (split_by name words) plain is) (meets name u.words words (has_places name u is))

  at_none : is_plain name ≡ true → usage_of name ≡ None → Splits (name ∷ words)
  at_none plain_name none =
      inr (unnamed_fault name words plain_name (met_sub name ∙ ap (option_map (λ (u : Usage). u.name)) none), ap₂ (split_by name words) plain none)

  at_name : is_plain name ≡ true → (o : Option Usage) → usage_of name ≡ o → Splits (name ∷ words)
  at_name plain_name (Some u) is = at_row u is
  at_name plain_name None is = at_none plain_name is

splits : (words : List Text) → list_all is_plain words ≡ true → Splits words
splits [] plain = inr (no_words_fault, refl)
splits (name ∷ words) plain =
    let each = both (is_plain name) (list_all is_plain words) plain in
    at_name name words each.1 each.0 (usage_of name) refl

-- ---- the three ends of a call

-- clap took the words
pub taken : (words : List Text) (found : Option (Text × List Row)) → list_all is_plain words ≡ true → fault_of commands words ≡ [] → found ≡ subcommand_of commands words
    → line_in found ≡ split_of words
taken words found plain none is = go (splits words plain)
  where
    go : Splits words → line_in found ≡ split_of words
    go (inl h) = ap line_in is ∙ h.1
    go (inr h) = absurd (h.0 none)

no_kind : (k : ErrorKind) (kinds : Kinds) → kinds ≡ [] → IsAmong k kinds → ⊥
no_kind k [] none h = h
no_kind k (x ∷ xs) none h = cc

-- clap refused the words
pub refused : (words : List Text) (k : ErrorKind) → list_all is_plain words ≡ true → IsAmong k (fault_of commands words) → split_of words ≡ None
refused words k plain among = go (splits words plain)
  where
    go : Splits words → split_of words ≡ None
    go (inl h) = absurd (no_kind k (fault_of commands words) h.0 among)
    go (inr h) = h.1

either_none : (t : Bool) (line : Option Line) → line ≡ None → (if t then line else None) ≡ None
either_none true line is = is
either_none false line is = refl

-- a word is empty or begins with a dash
pub not_plain : (words : List Text) → list_all is_plain words ≡ false → split_of words ≡ None
not_plain [] e = absurd (true≢false e)
not_plain ([] ∷ words) e = either_none (list_all is_plain words) _ refl
not_plain ((x ∷ xs) ∷ words) e = go (x == 45) refl
  where
    go : (t : Bool) → (x == 45) ≡ t → split_of ((x ∷ xs) ∷ words) ≡ None
    go true is =
        let dash : split_of ((45 ∷ xs) ∷ words) ≡ None = either_none (list_all is_plain words) _ refl in
        subst (λ n. split_of ((n ∷ xs) ∷ words) ≡ None) (sym (eqb-true x 45 is)) dash
    go false is =
        let later : list_all is_plain words ≡ false = rw is at e in
        rw later refl
