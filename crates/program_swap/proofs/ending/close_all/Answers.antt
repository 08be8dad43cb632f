use Rattle.std.proofs.Common.{List, ◌≡◌, sym, subst, ◌∙◌, ap, arith, length, Some}
use Rattle.std.specs.Prelude.{slice_get}
use Rattle.program_swap.specs.Order.{LaneState}
use Rattle.program_swap.proofs.Closing.{Closes, closes-may, closes-more, left-length}
use Rattle.program_swap.proofs.ending.close_all.Goals as goal

pub close_next-ends-requires : goal.close_next-ends-requires
close_next-ends-requires c =
    let front : slice_get c.loop.lanes 0 ≡ Some c.in-Some.lane = sym c.remove.ensures.item ∙ c.in-Some.is in
    closes-may c.args.token.now c.args.lanes c.loop.lanes c.in-Some.lane c.loop.ends c.args.places.now.refused c.loop.places.refused front c.loop.invariant.closes c.requires

pub loop-preserved : goal.loop-preserved
loop-preserved c =
    let front : slice_get c.loop.lanes 0 ≡ Some c.in-Some.lane = sym c.remove.ensures.item ∙ c.in-Some.is in
    let next = c.close_next-ends.ensures in
    let more = closes-more c.args.token.now c.args.lanes c.loop.lanes c.in-Some.lane c.loop.ends c.close_next-ends.result c.args.places.now.refused c.loop.places.refused c.close_next-ends.new.places.refused
    front c.loop.invariant.closes next.ok next.refused next.not_entered in
    let long = ap length c.remove.ensures.rest in
    record {
      closes = subst (λ (left : List LaneState). Closes c.args.token.now c.args.lanes left c.close_next-ends.result c.args.places.now.refused c.close_next-ends.new.places.refused) (sym c.remove.ensures.rest) more;
      left = omega (arith, long, left-length c.loop.lanes c.in-Some.lane front, c.loop.invariant.left);
    }
