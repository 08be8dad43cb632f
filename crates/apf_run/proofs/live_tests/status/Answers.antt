use Rattle.command_line.specs.Lines.{texts}
use Rattle.apf_run.specs.Live.{live_words_meaning}
use Rattle.apf_run.proofs.Fetched.{fetches_all}
use Rattle.apf_run.proofs.live_tests.status.Goals as goal

pub run_live-requires-clause-may : goal.run_live-requires-clause-may
run_live-requires-clause-may g c = λ κs within. fetches_all _ (λ name. tt) (live_words_meaning (texts c.args.words.now))
