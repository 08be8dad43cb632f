-- What the function that computes finds is what is spelled.
use Rattle.std.proofs.Common.{arith}
use Rattle.script_text.proofs.Exactness.{exact-found, exact-only, exact-none}
use Rattle.script_text.proofs.NumberWords.{number_exact}
use Rattle.script_text.proofs.numbers.read_number.Goals as goal

pub returns-clause-found : goal.returns-clause-found
returns-clause-found c = exact-found _ c.read_decimal.result _ (number_exact c.args.limit c.args.word.now (omega arith)) c.read_decimal.ensures.exact

pub returns-clause-only : goal.returns-clause-only
returns-clause-only c = exact-only _ c.read_decimal.result _ (number_exact c.args.limit c.args.word.now (omega arith)) c.read_decimal.ensures.exact

pub returns-clause-none : goal.returns-clause-none
returns-clause-none c = exact-none _ c.read_decimal.result _ (number_exact c.args.limit c.args.word.now (omega arith)) c.read_decimal.ensures.exact
