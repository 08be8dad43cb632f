use Rattle.std.proofs.Common.{◌≡◌, false, drop, map}
use Rattle.std.specs.List.{fold}
use Rattle.clap.specs.Words.{app_of, new_app, with_rule}
use Rattle.clap.specs.Walk.{texts}
use Rattle.clap.specs.declared.builder.command.Command.TheViews.{out-Command as fields_of}
use Rattle.command_line.specs.Parses.{positional}
use Rattle.command_line.proofs.commands.leaf.Given as goal

abbrev pub invariant-loop-id : goal.invariant-loop-id
invariant-loop-id l =
    (fold with_rule (app_of l.command) (map positional (texts (drop l.id-index l.fn.ids))) ≡ fold with_rule (new_app l.fn.name) (map positional (texts l.fn.ids)))
    × ((fields_of l.command).has_globals ≡ false)
