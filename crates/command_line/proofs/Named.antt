-- The walk at the first word, above the commands.
use Rattle.std.proofs.Common.{◌≡◌, ◌∙◌, true, false, refl, sym, ap, ap₂, List, [], ◌∷◌, Some, None, is_some, codes}
use Rattle.std.specs.List.{find, fold, list_all}
use Rattle.std.specs.Str.{bytes_eq}
use Rattle.clap.specs.Walk.{Names, Row, Text, Walk, answers_to, finished, idle, nothing_held, rows_after, settled, stop_after, subcommand_met, walk, walk_from, walked}
use Rattle.clap.specs.Simple.{App, Shape, built, entered, label_of, names_of, subcommand_of}
use Rattle.clap.specs.Kinds.{Kinds, or_else}
use Rattle.clap.specs.Faults.{check_fault, defaults_fault, entered_fault, fault_of, level_fault, settle_fault, turn_fault, walk_fault}
use Rattle.clap.specs.declared.error.kind.ErrorKind.{ErrorKind}
use Rattle.clap.proofs.FaultLemmas.{stopped_fault}
use Rattle.clap.proofs.WalkLemmas.{walk_stopped}
use Rattle.clap.proofs.OnLiterals.{clap_on_literals}
use Rattle.command_line.specs.Lines.{is_plain}
use Rattle.command_line.specs.Parses.{commands}
use Rattle.command_line.proofs.PlainWalk.{begun, level_plain, plain_level, plain_rows, plain_turn, rows_plain}

abbrev pub app : App
app = built commands

abbrev pub names : Names
names = names_of app

-- ---- a command's name

-- the command of this name is the first that answers to it
pub record IsSub (name : Text) (s : Shape) : Type 0 where
  pub met : subcommand_met names idle name ≡ Some name
  pub found : find (λ x. answers_to name (label_of x)) app.subs ≡ Some s
  pub label : s.name ≡ name
  pub no_help : bytes_eq name (codes "help") ≡ false

-- the walk after the name
abbrev pub stopped_at : Text → List Text → Walk
stopped_at name seen = record (walk_from nothing_held) { stopped = Some (name, seen) }

name_walked : (name : Text) → subcommand_met names idle name ≡ Some name → walked app.top.rules names (walk_from nothing_held) name ≡ stopped_at name []
unfolding walked
name_walked name met = rw met refl

name_turn : (name : Text) → subcommand_met names idle name ≡ Some name → bytes_eq name (codes "help") ≡ false → turn_fault app.top names (walk_from nothing_held) name ≡ []
name_turn name met no_help = rw (met, no_help) refl

name_walk : (name : Text) (words : List Text) → subcommand_met names idle name ≡ Some name → walk app.top.rules names nothing_held (name ∷ words) ≡ stopped_at name words
name_walk name words met = ap (λ w. fold (walked app.top.rules names) w words) (name_walked name met) ∙ sym (walk_stopped app.top.rules names (walk_from nothing_held) name [] words)

name_fault : (name : Text) (words : List Text) → subcommand_met names idle name ≡ Some name → bytes_eq name (codes "help") ≡ false
    → walk_fault app.top names (walk_from nothing_held) (name ∷ words) ≡ []
unfolding walk_fault
name_fault name words met no_help =
    ap₂ (λ (k : Kinds) (w : Walk). or_else k (walk_fault app.top names w words)) (name_turn name met no_help) (name_walked name met)
    ∙ stopped_fault app.top names (walk_from nothing_held) (name, []) words

-- the faults of the top level, from where its walk ends and the faults on the way
abbrev pub top_faults : Walk → Kinds → Kinds
top_faults w on_the_way = or_else on_the_way (or_else (entered_fault app w.stopped)
    (or_else (settle_fault app.top.rules app.top.args_override_self w.held)
    (or_else (defaults_fault (settled app.top.rules w.held).rows app.top.rules) (check_fault app.top (finished app.top.rules w.held) (is_some (entered app w.stopped))))))

then_nothing : (k : Kinds) → or_else k [] ≡ k
then_nothing [] = refl
then_nothing (k ∷ ks) = refl

enters : (name : Text) (s : Shape) (words : List Text) → IsSub name s → top_faults (stopped_at name words) [] ≡ or_else (level_fault s [] nothing_held words false []) []
unfolding clap_on_literals
enters name s words sub = rw (sub.found) refl

pub named_fault : (name : Text) (s : Shape) (words : List Text) → IsSub name s → list_all is_plain words ≡ true → fault_of commands (name ∷ words) ≡ plain_level s words
named_fault name s words sub plain =
    ap₂ top_faults (name_walk name words sub.met) (name_fault name words sub.met sub.no_help) ∙ enters name s words sub
    ∙ then_nothing (level_fault s [] nothing_held words false []) ∙ level_plain s words plain

pub named_found : (name : Text) (s : Shape) (words : List Text) → IsSub name s → list_all is_plain words ≡ true → subcommand_of commands (name ∷ words) ≡ Some (name, plain_rows s words)
named_found name s words sub plain =
    let stop : stop_after app.top.rules names (name ∷ words) ≡ Some (name, words) = ap (λ (w : Walk). w.stopped) (name_walk name words sub.met) in
    let enter : entered app (Some (name, words)) ≡ Some (s.name, rows_after s.rules [] words) = rw (sub.found) refl in
    ap (entered app) stop ∙ enter ∙ ap₂ (λ (n : Text) (rows : List Row). Some (n, rows)) sub.label (rows_plain s words plain)

-- ---- a word that is no command's name

not_nil : (k : ErrorKind) (ks : Kinds) → (k ∷ ks ≡ [] → ⊥)
not_nil k ks e = cc

pub unnamed_fault : (name : Text) (words : List Text) → is_plain name ≡ true → subcommand_met names idle name ≡ None → fault_of commands (name ∷ words) ≡ [] → ⊥
unfolding walk_fault
unnamed_fault name words plain none e =
    let turn = plain_turn app.top names begun name plain none in
    let is : fault_of commands (name ∷ words) ≡ top_faults (walk app.top.rules names nothing_held (name ∷ words)) (or_else (turn_fault app.top names (walk_from nothing_held) name) (walk_fault app.top names (walked app.top.rules names (walk_from nothing_held) name) words)) = refl in
    not_nil _ _ (sym (is ∙ ap (λ k. top_faults (walk app.top.rules names nothing_held (name ∷ words)) (or_else k (walk_fault app.top names (walked app.top.rules names (walk_from nothing_held) name) words))) turn) ∙ e)

pub no_words_fault : fault_of commands [] ≡ [] → ⊥
unfolding clap_on_literals
no_words_fault e = not_nil _ _ e
