-- The commands as the parser of command lines sees them, and the command and words that a parse found.
use Rattle.std.specs.Prelude.{true, List, [], ◌∷◌, fold, map, take, codes, Option, None, Some, option_map}
use Rattle.clap.specs.Words.{App, Row, Rule, Shape, Text, first_of, new_app, new_rule, with_subcommand}
use Rattle.clap.specs.Simple.{new_shape}
use Rattle.command_line.specs.Lines.{Further, Line, Usage, one, two, three, four, named, usages}

-- ---- the commands

-- the names of the words that follow, by their place
abbrev pub places : List Text
places = codes "first" ∷ codes "second" ∷ codes "third" ∷ codes "fourth" ∷ []

-- a word that has to stand in its place
abbrev pub positional : Text → Rule
positional id = record (new_rule id) { required = true }

-- a command of these positional arguments
abbrev pub leaf : Text → List Text → Shape
leaf name ids = record (new_shape name) { rules = map positional ids }

-- the command above the others: it has no options and no help command, and one of the others has to follow
abbrev pub top : App
top = record (new_app (codes "apf_run")) {
  top = record (new_app (codes "apf_run")).top {
    no_binary_name = true;
    disable_help_flag = true;
    disable_help_subcommand = true;
    disable_version_flag = true;
    subcommand_required = true;
  };
}

-- one more command
abbrev pub with_usage : App → Usage → App
with_usage a u = with_subcommand a (leaf u.name (take u.words places))

-- the commands of the table
abbrev pub commands : App
commands = fold with_usage top usages

-- ---- the command and words that a parse found

-- the words that were found, up to the first that wasn't
abbrev pub found_words : List (Option Text) → Option Further
found_words (Some a ∷ None ∷ rest) = Some (one a)
found_words (Some a ∷ Some b ∷ None ∷ rest) = Some (two a b)
found_words (Some a ∷ Some b ∷ Some c ∷ None ∷ rest) = Some (three a b c)
found_words (Some a ∷ Some b ∷ Some c ∷ Some d ∷ rest) = Some (four a b c d)
found_words words = None

abbrev pub further_in : List Row → Option Further
further_in rows = found_words (map (λ id. first_of id rows) places)

-- the command that a parse entered, with its words
abbrev pub line_in : Option (Text × List Row) → Option Line
line_in None = None
line_in (Some (name, rows)) = option_map (named name) (further_in rows)
