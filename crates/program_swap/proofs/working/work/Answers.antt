use Rattle.std.proofs.Common.{List, subst}
use Rattle.filter_core.specs.Replay.{Arrival}
use Rattle.program_swap.specs.Driving.{dealt_frames}
use Rattle.program_swap.proofs.Driving.{GoesOn, goes-answer, past-turn}
use Rattle.program_swap.proofs.working.work.Goals as goal

pub loop-frame-preserved-then-wait-gt0 : goal.loop-frame-preserved-then-wait-gt0
loop-frame-preserved-then-wait-gt0 g c =
    let all = dealt_frames c.args.wait c.args.others c.args.capture.now c.args.frames.now in
    subst (λ (xs : List Arrival). GoesOn all xs c.args.lane.now c.loop-frame.lane)
    (past-turn c.loop-frame.clock c.loop-frame.wait c.args.others c.args.capture.now c.args.frames.now c.loop-frame.frame-index c.loop-frame-test.true c.if-wait-gt0.true) c.loop-frame.invariant

pub loop-frame-preserved : goal.loop-frame-preserved
loop-frame-preserved g c =
    goes-answer (dealt_frames c.args.wait c.args.others c.args.capture.now c.args.frames.now) c.args.lane.now c.loop-frame.lane c.answer.new.self c.in-Ok.field-0
    c.loop-frame.clock c.max-clock.result c.loop-frame.wait c.args.others c.args.capture.now c.args.frames.now c.loop-frame.frame-index _ c.frame_at.result.now
    c.loop-frame-test.true c.if-wait-gt0.false c.max-clock.ensures c.frame_at.ensures.frame c.loop-frame.invariant c.in-Ok.ensures.ok
