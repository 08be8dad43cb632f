-- The code's commands, as the definitions see them.
use Rattle.std.specs.Prelude.{List, []}
use Rattle.clap.specs.Words.{App, Text}
use Rattle.command_line.specs.Lines as lines
use Rattle.command_line.specs.Parses.{leaf}
use Rattle.command_line.specs.declared.commands.Usage.{Usage}

-- a command of these positional arguments, with none below it
abbrev pub leaf_app : Text → List Text → App
leaf_app name ids = record { top = leaf name ids; subs = [] }

-- a row of the code's table
abbrev pub usage_of : Usage → lines.Usage
usage_of u = lines.usage u.name.now u.words
