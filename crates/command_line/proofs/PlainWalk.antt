-- The walk over plain words, which are values of positionals.
use Rattle.std.proofs.Common.{◌≡◌, ◌∙◌, ◌||◌, ◌==◌, ℕ, Bool, true, false, not, true≢false, refl, sym, ap, ap₂, List, [], ◌∷◌, Option, Some, None}
use Rattle.std.specs.List.{fold, list_all}
use Rattle.clap.specs.Walk.{Held, Names, Row, Rule, Step, Text, Waiting, Walk, after_step, idle, positional, value, arg_by_index, finished, is_multiple, next_position, nothing_held, positional_held, rows_after, settled, subcommand_met, subcommand_or_other, to_positional, walked, word_met}
use Rattle.clap.specs.Simple.{Shape}
use Rattle.clap.specs.Kinds.{Kinds, or_else}
use Rattle.clap.specs.Faults.{check_fault, defaults_fault, level_fault, other_fault, settle_fault, step_fault, turn_fault, walk_fault, word_fault}
use Rattle.clap.proofs.WalkLemmas.{both}
use Rattle.std.specs.Prelude.{if◌then◌else◌}
use Rattle.command_line.specs.Lines.{is_plain}

abbrev pub waiting_at : Bool → Waiting
waiting_at several = if several then positional else idle

-- ---- one word

module _ (x : ℕ) (xs : Text) (e : (x == 45) ≡ false) where
  pub other_met : (c : List Rule) (several : Bool) (position : ℕ) (h : Held) → subcommand_or_other c None (waiting_at several) position (x ∷ xs) h ≡ (h, value)
  other_met c true position h = rw (e, e) refl
  other_met c false position h = rw (e, e) refl

  pub other_passes : (s : Shape) (h : Held) → other_fault s None (x ∷ xs) h ≡ []
  other_passes s h = rw (e, e) refl

is_other : (b : Bool) → not b ≡ true → b ≡ false
is_other true e = sym e
is_other false e = refl

pub plain_met : (c : List Rule) (names : Names) (trailing several : Bool) (position : ℕ) (word : Text) (h : Held) → is_plain word ≡ true → subcommand_met names (waiting_at several) word ≡ None
    → word_met c names trailing (waiting_at several) position word h ≡ (h, value)
plain_met c names trailing several position [] h plain none = absurd (true≢false (sym plain))
plain_met c names true several position (x ∷ xs) h plain none = refl
plain_met c names false several position (x ∷ xs) h plain none =
    ap (λ o. subcommand_or_other c o (waiting_at several) position (x ∷ xs) h) none ∙ other_met x xs (is_other (x == 45) plain) c several position h

pub plain_passes : (s : Shape) (names : Names) (trailing several : Bool) (word : Text) (h : Held) → is_plain word ≡ true → subcommand_met names (waiting_at several) word ≡ None
    → word_fault s names trailing (waiting_at several) word h ≡ []
plain_passes s names trailing several [] h plain none = absurd (true≢false (sym plain))
plain_passes s names true several (x ∷ xs) h plain none = refl
plain_passes s names false several (x ∷ xs) h plain none = ap (λ o. other_fault s o (x ∷ xs) h) none ∙ other_passes x xs (is_other (x == 45) plain) s h

-- ---- where a walk over plain words stands

pub record Rest : Type 0 where
  pub held : Held
  pub several : Bool
  pub position : ℕ
  pub trailing : Bool

abbrev pub resting : Rest → Walk
resting r = record { held = r.held; waiting = waiting_at r.several; position = r.position; is_trailing = r.trailing; stopped = None }

-- the word goes to the positional, if there is one
abbrev pub placed_at : List Rule → Text → Rest → Option Rule → Rest
placed_at c word r None = r
placed_at c word r (Some a) = record {
  held = positional_held c a word r.held;
  several = is_multiple a;
  position = next_position a r.position;
  trailing = r.trailing || a.trailing_var_arg;
}

abbrev pub placed : List Rule → Rest → Text → Rest
placed c r word = placed_at c word r (arg_by_index c r.position)

to_rest : (c : List Rule) (word : Text) (r : Rest) (o : Option Rule) → to_positional c o word (resting r) r.held ≡ resting (placed_at c word r o)
to_rest c word r None = refl
to_rest c word r (Some a) = refl

pub plain_walked : (c : List Rule) (names : Names) (r : Rest) (word : Text) → is_plain word ≡ true → subcommand_met names (waiting_at r.several) word ≡ None
    → walked c names (resting r) word ≡ resting (placed c r word)
unfolding walked
plain_walked c names r word plain none =
    ap (λ (met : Held × Step). after_step c word (resting r) met.0 met.1) (plain_met c names r.trailing r.several r.position word r.held plain none)
    ∙ to_rest c word r (arg_by_index c r.position)

pub plain_turn : (s : Shape) (names : Names) (r : Rest) (word : Text) → is_plain word ≡ true → subcommand_met names (waiting_at r.several) word ≡ None
    → turn_fault s names (resting r) word ≡ step_fault s r.position r.held value
plain_turn s names r word plain none =
    ap₂ (λ (k : Kinds) (met : Held × Step). or_else k (step_fault s r.position met.0 met.1)) (plain_passes s names r.trailing r.several word r.held plain none)
    (plain_met s.rules names r.trailing r.several r.position word r.held plain none)

-- ---- all words, where there is no subcommand

abbrev pub plain_walk : List Rule → Rest → List Text → Rest
plain_walk c r words = fold (placed c) r words

abbrev pub plain_fault : Shape → Rest → List Text → Kinds
plain_fault s r [] = []
plain_fault s r (word ∷ words) = or_else (step_fault s r.position r.held value) (plain_fault s (placed s.rules r word) words)

none_named : (b : Bool) (word : Text) → subcommand_met [] (waiting_at b) word ≡ None
none_named true word = refl
none_named false word = refl

pub walk_plain : (c : List Rule) (r : Rest) (words : List Text) → list_all is_plain words ≡ true → fold (walked c []) (resting r) words ≡ resting (plain_walk c r words)
walk_plain c r [] plain = refl
walk_plain c r (word ∷ words) plain =
    let each = both (is_plain word) (list_all is_plain words) plain in
    ap (λ w. fold (walked c []) w words) (plain_walked c [] r word each.0 (none_named r.several word)) ∙ walk_plain c (placed c r word) words each.1

pub fault_plain : (s : Shape) (r : Rest) (words : List Text) → list_all is_plain words ≡ true → walk_fault s [] (resting r) words ≡ plain_fault s r words
unfolding walk_fault
fault_plain s r [] plain = refl
fault_plain s r (word ∷ words) plain =
    let each = both (is_plain word) (list_all is_plain words) plain in
    let none = none_named r.several word in
    ap₂ (λ (k : Kinds) (w : Walk). or_else k (walk_fault s [] w words)) (plain_turn s [] r word each.0 none) (plain_walked s.rules [] r word each.0 none)
    ∙ ap (or_else (step_fault s r.position r.held value)) (fault_plain s (placed s.rules r word) words each.1)

-- ---- one level

abbrev pub begun : Rest
begun = record { held = nothing_held; several = false; position = 1; trailing = false }

-- what the checks after the words say
abbrev pub after_words : Shape → Held → Kinds
after_words s end = or_else (settle_fault s.rules s.args_override_self end) (or_else (defaults_fault (settled s.rules end).rows s.rules) (check_fault s (finished s.rules end) false))

abbrev pub plain_level : Shape → List Text → Kinds
plain_level s words = or_else (plain_fault s begun words) (after_words s (plain_walk s.rules begun words).held)

abbrev pub plain_rows : Shape → List Text → List Row
plain_rows s words = finished s.rules (plain_walk s.rules begun words).held

pub level_plain : (s : Shape) (words : List Text) → list_all is_plain words ≡ true → level_fault s [] nothing_held words false [] ≡ plain_level s words
level_plain s words plain =
    ap₂ (λ (k : Kinds) (w : Walk). or_else k (after_words s w.held)) (fault_plain s begun words plain) (walk_plain s.rules begun words plain)

pub rows_plain : (s : Shape) (words : List Text) → list_all is_plain words ≡ true → rows_after s.rules [] words ≡ plain_rows s words
rows_plain s words plain = ap (λ (w : Walk). finished s.rules w.held) (walk_plain s.rules begun words plain)
