-- What the function that computes finds is what is spelled.
use Rattle.script_text.proofs.Exactness.{exact-found, exact-only, exact-none}
use Rattle.script_text.proofs.DigitWords.{ethertype_exact}
use Rattle.script_text.proofs.words.read_ethertype.Goals as goal

pub returns-clause-found : goal.returns-clause-found
returns-clause-found c = exact-found _ c.ethertype_in.result _ (ethertype_exact c.args.word.now) c.ethertype_in.ensures

pub returns-clause-only : goal.returns-clause-only
returns-clause-only c = exact-only _ c.ethertype_in.result _ (ethertype_exact c.args.word.now) c.ethertype_in.ensures

pub returns-clause-none : goal.returns-clause-none
returns-clause-none c = exact-none _ c.ethertype_in.result _ (ethertype_exact c.args.word.now) c.ethertype_in.ensures
