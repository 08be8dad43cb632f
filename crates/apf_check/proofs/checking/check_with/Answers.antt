-- A program has one answer, and the runs of an orderly one end.
use Rattle.std.specs.Prelude.{Ok, Err}
use Rattle.apf_check.proofs.Checked.{only_answer, all_end}
use Rattle.apf_check.proofs.checking.check_with.Goals as goal

pub returns-clause-accepts : goal.returns-clause-accepts
returns-clause-accepts c count = only_answer c.args.code.now c.examine.result (Ok count) c.examine.ensures.orderly c.examine.ensures.flawed

pub returns-clause-refuses : goal.returns-clause-refuses
returns-clause-refuses c flaw = only_answer c.args.code.now c.examine.result (Err flaw) c.examine.ensures.orderly c.examine.ensures.flawed

pub returns-clause-runs : goal.returns-clause-runs
returns-clause-runs c = all_end c.args.code.now c.examine.result c.examine.ensures.orderly
