use Rattle.std.proofs.Common.{rules, ◌∙◌}
use Rattle.command_plan.proofs.Following.{err_is}
use Rattle.command_plan.proofs.Saying.{item_said, item_unsaid, no_items}
use Rattle.apf_run.proofs.live_lines.say_all.Goals as goal

pub returns-in_err-say : goal.returns-in_err-say
returns-in_err-say g c =
    c.loop-line.invariant _ _
    (item_unsaid (λ line. line) c.args.lines.now c.loop-line.line-index _ c.as_slice.result.now _ _ _ c.in_err-say.field-0.0
    (search rules) (c.as_slice.ensures ∙ c.line-item.is) c.in_err-say.ensures (err_is _ _ c.from_residual.ensures.1))

pub loop-line-preserved : goal.loop-line-preserved
loop-line-preserved g c = λ b r more.
    c.loop-line.invariant b r
    (item_said (λ line. line) c.args.lines.now c.loop-line.line-index _ c.as_slice.result.now _ b r _
    (search rules) (c.as_slice.ensures ∙ c.line-item.is) c.in_ok-say.ensures more)

pub returns : goal.returns
returns g c = c.loop-line.invariant _ _ (no_items (λ line. line) c.args.lines.now c.loop-line.line-index _ (search rules))
