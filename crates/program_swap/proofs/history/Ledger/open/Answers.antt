use Rattle.std.proofs.Common.{sym, subst, refl}
use Rattle.program_swap.specs.Histories.{RisesByOne}
use Rattle.program_swap.proofs.history.Ledger.open.Goals as goal

pub returns-clause-rising : goal.returns-clause-rising
returns-clause-rising c = subst RisesByOne (sym c.open_row-seen.ensures.1) (c.args.first.now.number, (refl, tt))
