use Rattle.apf_run.proofs.Fetched.{fetches_all}
use Rattle.apf_run.proofs.running.status.Goals as goal

pub run-requires : goal.run-requires
run-requires c = fetches_all _ (λ name. tt) _
