-- What the function that computes finds is what is spelled.
use Rattle.script_text.proofs.Exactness.{exact-found, exact-only, exact-none}
use Rattle.script_text.proofs.AddressWords.{endpoint_exact}
use Rattle.script_text.proofs.words.read_endpoint.Goals as goal

pub returns-clause-found : goal.returns-clause-found
returns-clause-found c = exact-found _ c.endpoint_in.result _ (endpoint_exact c.args.word.now) c.endpoint_in.ensures

pub returns-clause-only : goal.returns-clause-only
returns-clause-only c = exact-only _ c.endpoint_in.result _ (endpoint_exact c.args.word.now) c.endpoint_in.ensures

pub returns-clause-none : goal.returns-clause-none
returns-clause-none c = exact-none _ c.endpoint_in.result _ (endpoint_exact c.args.word.now) c.endpoint_in.ensures
