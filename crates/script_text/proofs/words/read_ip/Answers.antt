-- What the function that computes finds is what is spelled.
use Rattle.script_text.proofs.Exactness.{exact-found, exact-only, exact-none}
use Rattle.script_text.proofs.AddressWords.{ip_exact}
use Rattle.script_text.proofs.words.read_ip.Goals as goal

pub returns-clause-found : goal.returns-clause-found
returns-clause-found c = exact-found _ c.ip_in.result _ (ip_exact c.args.word.now) c.ip_in.ensures

pub returns-clause-only : goal.returns-clause-only
returns-clause-only c = exact-only _ c.ip_in.result _ (ip_exact c.args.word.now) c.ip_in.ensures

pub returns-clause-none : goal.returns-clause-none
returns-clause-none c = exact-none _ c.ip_in.result _ (ip_exact c.args.word.now) c.ip_in.ensures
