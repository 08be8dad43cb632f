use Rattle.std.proofs.Common.{refl}
use Rattle.policy_state.specs.States.{start}
use Rattle.size_fit.specs.Sizes.{base, limit_of}
use Rattle.filter_report.proofs.filtering.start_core.Goals as goal

pub returns-in-Ok-clause-fits : goal.returns-in-Ok-clause-fits
returns-in-Ok-clause-fits c = λ lt. let x = (c.new.ensures.too_large (base c.args.config start) (limit_of c.args.config)).1 (lt, refl, refl) in absurd cc

pub returns-in-Err-TooLarge-clause-too_large : goal.returns-in-Err-TooLarge-clause-too_large
returns-in-Err-TooLarge-clause-too_large c = λ need limit h. (c.new.ensures.too_large need limit).0 cc

pub returns-in-Err-TooLarge-clause-fits : goal.returns-in-Err-TooLarge-clause-fits
returns-in-Err-TooLarge-clause-fits c = λ lt. let x = (c.new.ensures.too_large (base c.args.config start) (limit_of c.args.config)).1 (lt, refl, refl) in cc

pub returns-in-Err-OutOfMemory-clause-fits : goal.returns-in-Err-OutOfMemory-clause-fits
returns-in-Err-OutOfMemory-clause-fits c = λ lt. let x = (c.new.ensures.too_large (base c.args.config start) (limit_of c.args.config)).1 (lt, refl, refl) in absurd cc
