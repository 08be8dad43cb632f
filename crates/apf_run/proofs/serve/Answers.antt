use Rattle.command_line.specs.Lines.{texts}
use Rattle.apf_run.specs.Commands.{words_meaning}
use Rattle.apf_run.specs.Live.{live_words_meaning}
use Rattle.apf_run.proofs.Fetched.{fetches_all}
use Rattle.apf_run.proofs.serve.Goals as goal

pub run-requires : goal.run-requires
run-requires g c = fetches_all g.H.Shelf.may c.requires (words_meaning (texts c.args.words.now))

pub run_live-requires-clause-may : goal.run_live-requires-clause-may
run_live-requires-clause-may g c = λ κs within. fetches_all g.H.Shelf.may c.requires (live_words_meaning (texts c.args.words.now))
