use Rattle.std.proofs.Common.{ℕ, ◌≡◌, ◌-◌, length, get_or, subst, arith}
use Rattle.filter_core.specs.Arrivals.{arrivals_of}
use Rattle.program_swap.specs.Driving.{dealt_frames, HasDone}
use Rattle.program_swap.specs.Order.{LaneState}
use Rattle.program_swap.proofs.Driving.{are_done}
use Rattle.program_swap.proofs.working.run_lanes.Goals as goal

pub returns : goal.returns
returns g c =
    let lanes = c.args.lanes.now in
    let capture = c.args.capture.now in
    let frames = c.args.frames.now in
    let others : ℕ = length lanes - 1 in
    are_done (arrivals_of capture frames) (length lanes - 1) 0 lanes c.for_each_mut.new.s c.for_each_mut.auto.s
    (λ i hand d e lt.
    let same : i ≡ hand = omega arith in
    let k = (c.for_each_mut.ensures i d lt).1 in
    let old = get_or lanes i d in
    let new = get_or c.for_each_mut.new.s i d in
    subst (λ (h : ℕ). HasDone old (dealt_frames h (length lanes - 1) capture frames) new) same
    (subst (λ (l : LaneState). HasDone l (dealt_frames i (length lanes - 1) capture frames) new) k.argument_is
    (subst (λ (m : LaneState). HasDone k.argument.now (dealt_frames i (length lanes - 1) capture frames) m) k.left k.call)))
