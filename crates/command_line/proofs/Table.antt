-- The rows of the table, as the walk over the words finds them.
use Rattle.std.proofs.Common.{◌≡◌, ◌∙◌, ◌<◌, ◌&&◌, ◌||◌, Bool, true, false, not, refl, sym, ap, subst, List, [], ◌∷◌, Option, Some, None, cond, map, nat_lt, codes}
use Rattle.std.specs.List.{find, list_all}
use Rattle.std.specs.Option.{option_map}
use Rattle.std.specs.Str.{bytes_eq}
use Rattle.std.proofs.lemmas.Bool.{ltb-true}
use Rattle.std.proofs.lemmas.Slice.Eq.{bytes_eq-Decides}
use Rattle.clap.specs.Walk.{Text, answers_to, idle, subcommand_met}
use Rattle.clap.specs.Simple.{Shape, label_of}
use Rattle.clap.proofs.WalkLemmas.{both, find-map}
use Rattle.command_line.specs.Lines.{Usage, usage_of, usages}
use Rattle.command_line.proofs.Leaves.{sub}
use Rattle.command_line.proofs.Named.{IsSub, app, names}

-- the command of a row, built
abbrev sub_of : Usage → Shape
sub_of u = sub u.name u.words

-- the first row of this name
abbrev row_of : Text → List Usage → Option Usage
row_of name us = find (λ u. bytes_eq u.name name) us

-- a command answers to a name where its row is the first of this name
found_sub : (us : List Usage) (name : Text) → find (λ s. answers_to name (label_of s)) (map sub_of us) ≡ option_map sub_of (row_of name us)
found_sub [] name = refl
found_sub (u ∷ us) name = go (bytes_eq u.name name) (found_sub us name)
  where
    rest : Option Shape
    rest = find (λ s. answers_to name (label_of s)) (map sub_of us)

    go : (t : Bool) → rest ≡ option_map sub_of (row_of name us)
        → cond (t || false) (Some (sub_of u)) rest ≡ option_map sub_of (cond t (Some u) (row_of name us))
    go true e = refl
    go false e = e

-- the command that the walk enters at the name
entered_sub : (name : Text) → find (λ s. answers_to name (label_of s)) app.subs ≡ option_map sub_of (usage_of name)
entered_sub name = found_sub usages name

-- the name that the walk meets
pub met_sub : (name : Text) → subcommand_met names idle name ≡ option_map (λ u. u.name) (usage_of name)
met_sub name =
    ap (option_map (λ s. s.0)) (sym (find-map (answers_to name) label_of app.subs) ∙ ap (option_map label_of) (entered_sub name)) ∙ go (usage_of name)
  where
    go : (o : Option Usage) → option_map (λ s. s.0) (option_map label_of (option_map sub_of o)) ≡ option_map (λ u. u.name) o
    go None = refl
    go (Some u) = refl

-- ---- what each row of the table is

-- the name isn't that of clap's own command, and there are places for the words
abbrev is_fit : Usage → Bool
is_fit u = not (bytes_eq u.name (codes "help")) && nat_lt u.words 5

fits : list_all is_fit usages ≡ true
fits = refl

-- the row that is found has the name, and passes the test of all
found_row : (us : List Usage) (name : Text) (u : Usage) → row_of name us ≡ Some u → list_all is_fit us ≡ true → (bytes_eq u.name name ≡ true) × (is_fit u ≡ true)
found_row [] name u is fit = cc
found_row (v ∷ us) name u is fit =
    let each = both (is_fit v) (list_all is_fit us) fit in
    go (bytes_eq v.name name) refl each.0 (λ later. found_row us name u later each.1) is
  where
    go : (t : Bool) → bytes_eq v.name name ≡ t → is_fit v ≡ true → (row_of name us ≡ Some u → (bytes_eq u.name name ≡ true) × (is_fit u ≡ true))
        → cond t (Some v) (row_of name us) ≡ Some u → (bytes_eq u.name name ≡ true) × (is_fit u ≡ true)
    go true same one later here =
        let is : v ≡ u = cc in
        subst (λ (w : Usage). (bytes_eq w.name name ≡ true) × (is_fit w ≡ true)) is (same, one)
    go false same one later here = later here

is_no : (t : Bool) → not t ≡ true → t ≡ false
is_no true e = sym e
is_no false e = refl

module _ (name : Text) (u : Usage) (is : usage_of name ≡ Some u) where
  row : (bytes_eq u.name name ≡ true) × (is_fit u ≡ true)
  row = found_row usages name u is fits

  same_name : u.name ≡ name
  same_name = (bytes_eq-Decides u.name name).0 row.0

  -- clap has a place for each word
  pub has_places : u.words < 5
  has_places = ltb-true u.words 5 (both _ _ row.1).1

  not_help : bytes_eq u.name (codes "help") ≡ false
  not_help = is_no _ (both _ _ row.1).0

  pub is_sub : IsSub name (sub name u.words)
  is_sub = subst (λ n. IsSub name (sub n u.words)) same_name (record {
    met = met_sub name ∙ ap (option_map (λ (v : Usage). v.name)) is ∙ ap Some same_name;
    found = entered_sub name ∙ ap (option_map sub_of) is;
    label = same_name;
    no_help = subst (λ n. bytes_eq n (codes "help") ≡ false) same_name not_help;
  })
