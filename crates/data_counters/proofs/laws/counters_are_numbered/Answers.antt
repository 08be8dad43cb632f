use Rattle.data_counters.proofs.Apart.{counter_of-number_of, number_of-counter_of}
use Rattle.data_counters.proofs.laws.counters_are_numbered.Goals as goal

pub returns-clause-number : goal.returns-clause-number
returns-clause-number c = counter_of-number_of

pub returns-clause-counter : goal.returns-clause-counter
returns-clause-counter c = number_of-counter_of
