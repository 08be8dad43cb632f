use Rattle.std.proofs.Common.{◌≡◌, ◌+◌, ◌*◌, ◌≤◌, replicate}
use Rattle.left_right.specs.Sides.{view}
use Rattle.program_swap.specs.Lanes.{fresh_lane}
use Rattle.program_swap.proofs.board.lanes_of.Given as goal

abbrev pub invariant-loop : goal.invariant-loop
invariant-loop l = (l.all ≡ replicate l.counter (fresh_lane l.known.book l.known.log l.room))
    × (l.fn.places.refused ≤ l.places.refused) × (l.places.refused ≤ l.fn.places.refused + 1000 * l.counter)
    × (l.writer.desk.shown ≡ l.fn.writer.desk.shown) × (l.writer.log ≡ l.fn.writer.log) × (l.writer.behind ≡ l.fn.writer.behind) × (view l.writer.desk.place ≡ view l.fn.writer.desk.place)
