use Rattle.std.proofs.Common.{List, length, replicate, sym, subst}
use Rattle.apf_base.specs.Limits.{memory_size}
use Rattle.filter_core.specs.Lanes.{LaneAnswers}
use Rattle.filter_core.specs.Replay.{Arrival}
use Rattle.policy_state.specs.declared.basis.Answer.{Answer}
use Rattle.program_swap.specs.Again.{KeepsNamed}
use Rattle.program_swap.proofs.Driving.{left_from, past-turn, none-left}
use Rattle.program_swap.proofs.Renewing.{Renews, renews-none, renews-answer, renews-kept, rises-from_zero, last-stands}
use Rattle.program_swap.proofs.again.share_again.Goals as goal

pub loop-frame-init : goal.loop-frame-init
loop-frame-init c =
    let all = left_from 0 c.args.hand c.args.others c.args.capture.now c.args.frames.now 0 in
    let end = c.args.end.now in
    let kept = subst (λ (as' : List Answer). LaneAnswers end.view 0 (replicate memory_size 0) all as' end.memory) (sym c.answers-kept.ensures.answers) c.requires.runs in
    renews-none c.args.installs.now end.view c.index-installs-installs.result.number all c.answers-kept.result.now end.memory c.new-again.result c.new-again.ensures.answers c.new-again.ensures.memory kept

pub loop-frame-preserved-then-wait-gt0 : goal.loop-frame-preserved-then-wait-gt0
loop-frame-preserved-then-wait-gt0 c =
    let all = left_from 0 c.args.hand c.args.others c.args.capture.now c.args.frames.now 0 in
    subst (λ (xs : List Arrival). Renews c.args.installs.now c.args.end.now.view c.index-installs-installs.result.number all xs c.answers-kept.result.now c.args.end.now.memory c.loop-frame.again)
    (past-turn c.loop-frame.clock c.loop-frame.wait c.args.others c.args.capture.now c.args.frames.now c.loop-frame.frame-index c.loop-frame-test.true c.if-wait-gt0.true) c.loop-frame.invariant

pub loop-frame-preserved : goal.loop-frame-preserved
loop-frame-preserved c =
    let installs = c.args.installs.now in
    let view = c.args.end.now.view in
    let all = left_from 0 c.args.hand c.args.others c.args.capture.now c.args.frames.now 0 in
    renews-answer installs view c.index-installs-installs.result all c.answers-kept.result.now c.args.end.now.memory c.loop-frame.again c.add.new.self c.len.result _
    c.loop-frame.clock c.max-clock.result c.loop-frame.wait c.args.others c.args.capture.now c.args.frames.now c.loop-frame.frame-index _ c.frame_at.result.now
    c.requires.numbers (rises-from_zero installs view c.requires.installs c.requires.numbers c.requires.view c.keeps_order.ensures.rising) c.requires.view
    (last-stands installs c.index-installs-installs.result _ c.requires.installs c.index-installs-installs.is)
    c.loop-frame-test.true c.if-wait-gt0.false c.max-clock.ensures c.frame_at.ensures.frame c.loop-frame.invariant c.len.ensures c.in_ok-add.ensures

pub returns-clause-kept : goal.returns-clause-kept
returns-clause-kept c =
    let installs = c.args.installs.now in
    subst (λ (as' : List Answer). KeepsNamed (length installs) as' c.loop-frame.again.answers) c.answers-kept.ensures.answers
    (renews-kept installs c.args.end.now.view c.index-installs-installs.result _ _ _ c.loop-frame.again c.requires.numbers (last-stands installs c.index-installs-installs.result _ c.requires.installs c.index-installs-installs.is)
    (subst (λ (xs : List Arrival). Renews installs c.args.end.now.view c.index-installs-installs.result.number (left_from 0 c.args.hand c.args.others c.args.capture.now c.args.frames.now 0) xs c.answers-kept.result.now c.args.end.now.memory c.loop-frame.again)
    (none-left c.loop-frame.clock c.loop-frame.wait c.args.others c.args.capture.now c.args.frames.now c.loop-frame.frame-index c.loop-frame-test.false) c.loop-frame.invariant))
