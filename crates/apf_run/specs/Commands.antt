-- What words mean: the commands, each by its name and the words that follow it.
use Rattle.std.specs.Prelude.{◌≡◌, ◌∷◌, ℕ, List, codes, Option, None, Some}
use Rattle.command_line.specs.Lines.{Line, Further, one, two, three, four, split_of}
use Rattle.command_plan.specs.Meaning.{CommandMeaning, nothing, command, named}
use Rattle.code_commands.specs.Asm.{asm_plan}
use Rattle.code_commands.specs.Disasm.{disasm_plan}
use Rattle.code_commands.specs.Exec.{exec_meaning}
use Rattle.apf_run.specs.Filter.{filter_plan}
use Rattle.apf_run.specs.Make.{make_meaning}
use Rattle.apf_run.specs.Program.{program_meaning}

abbrev pub meaning_by : List ℕ → Further → CommandMeaning
meaning_by name (one a) = named name (codes "asm") (command (asm_plan a)) (named name (codes "disasm") (command (disasm_plan a)) nothing)
meaning_by name (two a b) = named name (codes "filter") (command (filter_plan a b)) (named name (codes "make") (make_meaning a b) nothing)
meaning_by name (three a b c) = named name (codes "exec") (exec_meaning a b c) nothing
meaning_by name (four a b c d) = named name (codes "program") (program_meaning a b c d) nothing

abbrev pub meaning_for : Option Line → CommandMeaning
meaning_for None = nothing
meaning_for (Some line) = meaning_by line.name line.further

-- `live` is another call's
abbrev pub words_meaning : List (List ℕ) → CommandMeaning
words_meaning words = meaning_for (split_of words)

-- the first word is this name
abbrev pub IsNamed : List ℕ → List (List ℕ) → Type 0
IsNamed name words = (further : List (List ℕ)) × (words ≡ name ∷ further)
