use Rattle.std.proofs.Common.{◌≡◌, ◌+◌}
use Rattle.left_right.specs.Sides.{view}
use Rattle.program_swap.specs.Board.{ReadsOn}
use Rattle.program_swap.proofs.place.Place.try_enter.Given as goal

abbrev pub invariant-loop : goal.invariant-loop
invariant-loop l = (l.place.entered ≡ l.fn.self.entered) × (l.place.refused ≡ l.fn.self.refused + l.counter) × ReadsOn (view l.fn.self.reader.place) (view l.place.reader.place) × (l.least ≡ 0 → view l.place.reader.place ≡ view l.fn.self.reader.place)
