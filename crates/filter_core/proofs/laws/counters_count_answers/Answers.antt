use Rattle.filter_core.proofs.Counting.{memory_of-none, memory_of-more, value_of-counts, length-memory_of}
use Rattle.filter_core.proofs.laws.counters_count_answers.Goals as goal

pub returns : goal.returns
returns c = record { none = memory_of-none; more = memory_of-more; value = value_of-counts; length = length-memory_of }
