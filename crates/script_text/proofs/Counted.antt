-- The lines of all counters, by their numbers.
use Rattle.std.proofs.Common.{◌≡◌, ℕ, ◌+◌, ◌<◌, ◌≤◌, List, [], ◌++◌, take, get_or, refl, ap}
use Rattle.std.specs.List.{flat_map}
use Rattle.std.proofs.lemmas.List.{take_all}
use Rattle.data_counters.specs.declared.counter.Counter.TheVariants.{TotalPackets}
use Rattle.data_counters.specs.Counters.{all_counters, counter_count}
use Rattle.data_counters.proofs.Listed.{flat_map-more}
use Rattle.script_text.specs.Report.{counter_line, counter_lines}

-- the lines of the first counters
pub counted : List ℕ → ℕ → List ℕ
counted memory k = flat_map (counter_line memory) (take k all_counters)

pub counted-more : (memory : List ℕ) (k : ℕ) → k < counter_count → counted memory k ++ counter_line memory (get_or all_counters k TotalPackets) ≡ counted memory (k + 1)
unfolding counted
counted-more memory k lt = flat_map-more (counter_line memory) k lt

pub counted-none : (memory : List ℕ) → counted memory 0 ≡ []
unfolding counted
counted-none memory = refl

pub counted-all : (memory : List ℕ) (k : ℕ) → counter_count ≤ k → counted memory k ≡ counter_lines memory
unfolding counted counter_lines
counted-all memory k all = ap (flat_map (counter_line memory)) (take_all k all_counters all)
