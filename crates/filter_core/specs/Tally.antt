-- The counters are counts of answers.
use Rattle.std.specs.Prelude.{ℕ, ◌-◌, ◌/◌, ◌==◌, ◌%◌, ◌^◌, List, [], ◌∷◌, ◌++◌, map, flat_map, replicate, reverse, count_by}
use Rattle.std.specs.Int.{w32, to_be_bytes}
use Rattle.data_counters.specs.Counters.{number_of, all_counters, counter_count}
use Rattle.apf_base.specs.Limits.{memory_size}
use Rattle.data_counters.specs.declared.counter.Counter.{Counter}
use Rattle.data_counters.specs.declared.counter.Counter.TheVariants.{TotalPackets}
use Rattle.policy_state.specs.Whole.{Fate, Short, Missing, Says}
use Rattle.filter_core.specs.Steps.{Answered}

-- the counters that an answer raises
abbrev pub raises : Fate → List Counter
raises Short = []
raises Missing = TotalPackets ∷ []
raises (Says verdict counter) = TotalPackets ∷ counter ∷ []

-- all counters that answers raise, in their order
abbrev pub raised_by : List Answered → List Counter
raised_by answers = flat_map (λ answer. raises answer.fate) answers

-- how often a counter was raised
abbrev pub times_raised : List Counter → Counter → ℕ
times_raised raised c = count_by (λ d. number_of d == number_of c) raised

-- the words of the memory: zeros where no counter stands, and then the counters by falling number
abbrev pub words_of : List Counter → List ℕ
words_of raised = replicate (memory_size / 4 - counter_count) 0 ++ map (λ c. times_raised raised c % 2 ^ 32) (reverse all_counters)

-- the memory that holds these counts
unfoldable pub memory_of : List Counter → List ℕ
memory_of raised = flat_map (to_be_bytes w32) (words_of raised)
