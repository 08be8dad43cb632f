use Rattle.std.proofs.Common.{◌≡◌, ◌∙◌, List, length, map, ap, subst, arith}
use Rattle.command_plan.proofs.Following.{err_is}
use Rattle.std.proofs.lemmas.List.{length-map}
use Rattle.filter_core.specs.Arrivals.{arrivals_of}
use Rattle.program_swap.specs.declared.again.ShareAnswers.{ShareAnswers}
use Rattle.apf_run.proofs.Boards.{ends_answered, shares_some, installs_ran, installs_left, lanes_fail, lanes_lack, lanes_say, ran_live, stands_seen, has_lived}
use Rattle.dealt_items.specs.Dealing.{woven}
use Rattle.dealt_items.specs.Sums.{IsSumOf}
use Rattle.std.proofs.lemmas.Result.{on_ok_weaker}
use Rattle.apf_run.proofs.live.report.Goals as goal

pub returns-in_err-all-clause-plan : goal.returns-in_err-all-clause-plan
returns-in_err-all-clause-plan g c = λ script shelf told are.
    lanes_fail shelf _ _ _ c.ends_of.ensures.rises script c.args.bytes.now c.args.lanes c.in_err-all.field-0.0 _ (err_is _ _ c.from_residual.ensures.1) c.in_err-all.ensures.board

pub returns-in_err-shares-clause-plan : goal.returns-in_err-shares-clause-plan
returns-in_err-shares-clause-plan g c = λ script shelf told are.
    lanes_lack shelf _ _ _ c.in_ok-all.ensures.rises script c.args.bytes.now c.args.lanes _ (err_is _ _ c.from_residual-in_err-shares.ensures.1)

pub returns-in_err-answers-clause-plan : goal.returns-in_err-answers-clause-plan
returns-in_err-answers-clause-plan g c = λ script shelf told are.
    lanes_lack shelf _ _ _ c.in_ok-all.ensures.rises script c.args.bytes.now c.args.lanes _ (err_is _ _ c.from_residual-in_err-answers.ensures.1)

pub shares_again-requires-clause-answered : goal.shares_again-requires-clause-answered
shares_again-requires-clause-answered g c =
    let a = c.in_ok-all.ensures.answered in
    (a.0, ends_answered a.0 c.args.told.now.installs c.as_slice-installs.result.now c.args.lanes (arrivals_of c.args.bytes.now c.args.frames.now) c.in_ok-all.all c.as_slice.result.now c.as_slice-installs.ensures c.as_slice.ensures a.1)

pub woven-requires : goal.woven-requires
woven-requires g c =
    let a = c.in_ok-all.ensures.answered in
    let shares = c.in_ok-shares.shares in
    let some = shares_some a.0 c.args.told.now.installs c.as_slice-installs.result.now c.args.lanes (arrivals_of c.args.bytes.now c.args.frames.now) c.in_ok-all.all c.as_slice.result.now c.as_slice-installs.ensures c.as_slice.ensures a.1
    (map (λ (s : ShareAnswers). s.answers) shares) (map (λ (s : ShareAnswers). s.memory) shares) (omega (arith, c.requires.lanes.0)) c.in_ok-shares.ensures.run in
    omega (arith, some, length-map shares (λ (s : ShareAnswers). s.answers), ap length c.as_slice-2.ensures)

pub returns-clause-plan : goal.returns-clause-plan
returns-clause-plan g c = λ script shelf told are.
    let a = c.in_ok-all.ensures.answered in
    let t = c.args.told.now in
    let bytes = c.args.bytes.now in
    let shares = c.in_ok-shares.shares in
    let xs = arrivals_of bytes c.args.frames.now in
    let kept = map (λ (s : ShareAnswers). s.answers) shares in
    let memories = map (λ (s : ShareAnswers). s.memory) shares in
    let run = installs_ran a.0 t.installs c.as_slice-installs.result.now c.args.lanes xs c.in_ok-all.all c.as_slice.result.now c.as_slice-installs.ensures c.as_slice.ensures a.1 kept memories c.in_ok-shares.ensures.run in
    let wove : c.as_slice-4.result.now ≡ woven (length c.args.frames.now) kept = c.as_slice-4.ensures ∙ c.in_ok-answers.ensures ∙ ap (λ (ss : List ShareAnswers). woven (length c.args.frames.now) (map (λ (s : ShareAnswers). s.answers) ss)) c.as_slice-2.ensures in
    let summed = subst (λ (ss : List ShareAnswers). IsSumOf (map (λ (s : ShareAnswers). s.memory) ss) c.total-sum.result) c.as_slice-3.ensures c.total-sum.ensures in
    let live = ran_live script bytes c.args.frames.now t.installs t.lines c.args.lanes kept memories c.as_slice-4.result.now c.total-sum.result told are run wove summed in
    lanes_say shelf _ _ _ c.in_ok-all.ensures.rises script bytes c.args.lanes _ _ c.say_live.result live (c.say_live.ensures script told)

pub returns-clause-lived : goal.returns-clause-lived
returns-clause-lived g c = λ script text is told are.
    let a = c.in_ok-all.ensures.answered in
    let t = c.args.told.now in
    let bytes = c.args.bytes.now in
    let shares = c.in_ok-shares.shares in
    let xs = arrivals_of bytes c.args.frames.now in
    let kept = map (λ (s : ShareAnswers). s.answers) shares in
    let memories = map (λ (s : ShareAnswers). s.memory) shares in
    let run = installs_ran a.0 t.installs c.as_slice-installs.result.now c.args.lanes xs c.in_ok-all.all c.as_slice.result.now c.as_slice-installs.ensures c.as_slice.ensures a.1 kept memories c.in_ok-shares.ensures.run in
    let wove : c.as_slice-4.result.now ≡ woven (length c.args.frames.now) kept = c.as_slice-4.ensures ∙ c.in_ok-answers.ensures ∙ ap (λ (ss : List ShareAnswers). woven (length c.args.frames.now) (map (λ (s : ShareAnswers). s.answers) ss)) c.as_slice-2.ensures in
    let summed = subst (λ (ss : List ShareAnswers). IsSumOf (map (λ (s : ShareAnswers). s.memory) ss) c.total-sum.result) c.as_slice-3.ensures c.total-sum.ensures in
    let left = installs_left a.0 t.installs c.as_slice-installs.result.now c.args.lanes xs c.in_ok-all.all c.as_slice.result.now c.as_slice-installs.ensures c.as_slice.ensures a.1 in
    let stands = stands_seen _ _ _ c.say_live.result (g.O.Sink.held c.args.out.now) (g.O.Sink.held c.say_live.new.out) _ _ (g.met.O.Lines.seen_is c.args.out.now) (g.met.O.Lines.seen_is c.say_live.new.out) (c.say_live.ensures script told) in
    on_ok_weaker c.say_live.result
    (λ appends. has_lived script text bytes c.args.frames.now t.installs c.as_slice-installs.result.now t.lines c.args.lanes c.in_ok-all.all c.as_slice.result.now a.0 kept memories c.as_slice-4.result.now c.total-sum.result _ _
    is told are run wove summed appends left c.as_slice-installs.ensures c.as_slice.ensures c.in_ok-shares.ensures.kept)
    stands
