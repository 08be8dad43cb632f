use Rattle.std.proofs.Common.{sym, subst}
use Rattle.program_swap.specs.Histories.{History}
use Rattle.program_swap.specs.Board.{GrowsTo}
use Rattle.program_swap.proofs.Keeping.{publishes}
use Rattle.program_swap.proofs.rule.publish.Goals as goal

pub publish_as-requires : goal.publish_as-requires
publish_as-requires g c next is = publishes _ _ _ next (subst (λ (s : History). GrowsTo c.args.writer.desk.shown.value s) (sym is) c.requires)
