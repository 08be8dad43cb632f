use Rattle.data_counters.proofs.Adding.{AddsFirst}
use Rattle.data_counters.proofs.memory.add_all.Given as goal

abbrev pub invariant-loop-k : goal.invariant-loop-k
invariant-loop-k l = AddsFirst l.k l.initial.into l.from l.into
