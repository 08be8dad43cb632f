use Rattle.std.proofs.Common.{◌≡◌, ◌+◌, length}
use Rattle.program_swap.proofs.Closing.{Closes}
use Rattle.program_swap.proofs.ending.close_all.Given as goal

abbrev pub invariant-loop : goal.invariant-loop
invariant-loop l = record {
  closes : Closes l.token l.fn.lanes l.lanes l.ends l.fn.places.refused l.places.refused;
  left : length l.lanes + l.counter ≡ length l.fn.lanes;
}
