use Rattle.data_counters.proofs.Apart.{value_of-sum, sum-one}
use Rattle.data_counters.proofs.laws.sums_add_each_counter.Goals as goal

pub returns-clause-counters : goal.returns-clause-counters
returns-clause-counters c = value_of-sum

pub returns-clause-one : goal.returns-clause-one
returns-clause-one c = sum-one
