use Rattle.std.proofs.Common.{◌∙◌, ap}
use Rattle.std.proofs.lemmas.Result.{IfOk-weaker}
use Rattle.clap.specs.Words.{App, app_of, with_subcommand}
use Rattle.command_line.specs.Commands.{leaf_app}
use Rattle.command_line.proofs.commands.with_usage.Goals as goal

pub returns : goal.returns
returns c =
    let below = c.in_ok-below.ensures in
    let shape = below.app ∙ ap (leaf_app c.args.usage.now.name.now) c.places.ensures in
    IfOk-weaker c.subcommand.result _ _ (λ r added. added.shape below.local ∙ ap (λ (a : App). with_subcommand (app_of c.args.command) a.top) shape) c.subcommand.ensures
