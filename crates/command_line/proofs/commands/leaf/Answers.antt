use Rattle.std.proofs.Common.{◌≡◌, ◌∙◌, map, drop, [], arith}
use Rattle.std.proofs.lemmas.List.{drop_all}
use Rattle.std.specs.List.{fold}
use Rattle.clap.specs.Words.{app_of, new_app, with_rule}
use Rattle.clap.specs.Walk.{texts}
use Rattle.command_line.specs.Parses.{positional}
use Rattle.command_line.proofs.Rules.{added}
use Rattle.command_line.proofs.commands.leaf.Goals as goal

pub returns-clause-app : goal.returns-clause-app
returns-clause-app c =
    let arguments = map positional (texts c.args.ids.now) in
    let none : drop c.loop-id.id-index c.args.ids.now ≡ [] = drop_all c.loop-id.id-index c.args.ids.now (omega arith) in
    let in_turn : app_of c.loop-id.command ≡ fold with_rule (new_app c.args.name.now) arguments = rw none at c.loop-id.invariant.0 in
    in_turn ∙ added (new_app c.args.name.now) arguments
