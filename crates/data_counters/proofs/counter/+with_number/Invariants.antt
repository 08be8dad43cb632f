use Rattle.std.proofs.Common.{length}
use Rattle.data_counters.proofs.counter.+with_number.Given as goal

abbrev pub decreases-with_number : goal.decreases-with_number
decreases-with_number l = length l.counters.now
