use Rattle.std.proofs.Common.{rules, ◌∙◌}
use Rattle.command_plan.proofs.Following.{err_is}
use Rattle.command_plan.proofs.Saying.{says_lack}
use Rattle.apf_run.proofs.LaneLines.{lane_said, lane_unsaid, no_lanes}
use Rattle.apf_run.proofs.live_lines.say_answers.Goals as goal

pub returns-in_err-line : goal.returns-in_err-line
returns-in_err-line g c = c.loop-index.invariant _ _ (says_lack _ _ _ c.from_residual.ensures.1)

pub returns-in_err-say : goal.returns-in_err-say
returns-in_err-say g c =
    c.loop-index.invariant _ _
    (lane_unsaid c.args.lanes c.args.answers.now c.loop-index.index _ c.as_slice.result.now _ _ _ c.in_err-say.field-0.0
    (search rules) (c.as_slice.ensures ∙ c.in_ok-line.ensures) c.in_err-say.ensures (err_is _ _ c.from_residual-in_err-say.ensures.1))

pub loop-index-preserved : goal.loop-index-preserved
loop-index-preserved g c = λ b r more.
    c.loop-index.invariant b r
    (lane_said c.args.lanes c.args.answers.now c.loop-index.index _ c.as_slice.result.now _ b r _
    (search rules) (c.as_slice.ensures ∙ c.in_ok-line.ensures) c.in_ok-say.ensures more)

pub returns : goal.returns
returns g c = c.loop-index.invariant _ _ (no_lanes c.args.lanes c.loop-index.index c.args.answers.now _ (search rules))
