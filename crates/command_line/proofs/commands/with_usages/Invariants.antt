use Rattle.std.proofs.Common.{◌≡◌, drop, map}
use Rattle.std.specs.List.{fold}
use Rattle.clap.specs.Words.{app_of}
use Rattle.command_line.specs.Commands.{usage_of}
use Rattle.command_line.specs.Parses.{top, with_usage}
use Rattle.command_line.proofs.commands.with_usages.Given as goal

abbrev pub invariant-loop-usage : goal.invariant-loop-usage
invariant-loop-usage l = fold with_usage (app_of l.command) (map usage_of (drop l.usage-index l.fn.usages)) ≡ fold with_usage top (map usage_of l.fn.usages)
