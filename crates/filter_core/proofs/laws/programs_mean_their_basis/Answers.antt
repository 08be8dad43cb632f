use Rattle.filter_core.proofs.Answering.{meaning}
use Rattle.filter_core.proofs.laws.programs_mean_their_basis.Goals as goal

pub returns : goal.returns
returns c = record { means = meaning; short = λ i. i.short; fits = λ i. i.fits; bytes = λ i. i.bytes }
