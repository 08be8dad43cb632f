-- What the function that computes finds is what is spelled.
use Rattle.script_text.proofs.Exactness.{exact-found, exact-only, exact-none}
use Rattle.script_text.proofs.DigitWords.{mac_exact}
use Rattle.script_text.proofs.words.read_mac.Goals as goal

pub returns-clause-found : goal.returns-clause-found
returns-clause-found c = exact-found _ c.mac_in.result _ (mac_exact c.args.word.now) c.mac_in.ensures

pub returns-clause-only : goal.returns-clause-only
returns-clause-only c = exact-only _ c.mac_in.result _ (mac_exact c.args.word.now) c.mac_in.ensures

pub returns-clause-none : goal.returns-clause-none
returns-clause-none c = exact-none _ c.mac_in.result _ (mac_exact c.args.word.now) c.mac_in.ensures
