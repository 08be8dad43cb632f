use Rattle.filter_core.proofs.Causes.{bad_exactly}
use Rattle.filter_core.proofs.Numbering.{updated_counts, advertised_counts}
use Rattle.filter_core.proofs.laws.steps_count_their_installs.Goals as goal

pub returns : goal.returns
returns c = record { bad = bad_exactly; update = updated_counts; advertisement = advertised_counts }
