use Rattle.std.proofs.Common.{◌≡◌, ◌+◌}
use Rattle.program_swap.proofs.place.Places.try_ask.Given as goal

abbrev pub invariant-loop : goal.invariant-loop
invariant-loop l = l.self.refused ≡ l.fn.self.refused + l.counter
