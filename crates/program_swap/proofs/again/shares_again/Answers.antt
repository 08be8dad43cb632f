use Rattle.std.proofs.Common.{◌+◌, ◌-◌, length, sym, subst, arith}
use Rattle.dealt_items.specs.Dealing.{every}
use Rattle.filter_core.specs.Arrivals.{arrivals_of}
use Rattle.program_swap.specs.Driving.{HasAnsweredShare}
use Rattle.program_swap.specs.Order.{EndState}
use Rattle.program_swap.proofs.Renewing.{answered-at, shares-more, kept-more, kept-all}
use Rattle.program_swap.proofs.again.shares_again.Goals as goal

pub share_again-requires-clause-view : goal.share_again-requires-clause-view
share_again-requires-clause-view c =
    let xs = arrivals_of c.args.capture.now c.args.frames.now in
    let ends = c.args.ends.now in
    let at = answered-at c.requires.answered.0 c.args.installs.now (length ends - 1) 0 (length ends) xs ends c.requires.answered.1 c.loop-hand.hand c.loop-hand.hand _ (omega arith) c.loop-hand-test.true in
    (subst (λ (e : EndState). HasAnsweredShare c.requires.answered.0 c.args.installs.now (every c.loop-hand.hand (length ends - 1) xs) e) (sym c.index-ends-hand.is) at).view

pub share_again-requires-clause-runs : goal.share_again-requires-clause-runs
share_again-requires-clause-runs c =
    let xs = arrivals_of c.args.capture.now c.args.frames.now in
    let ends = c.args.ends.now in
    let at = answered-at c.requires.answered.0 c.args.installs.now (length ends - 1) 0 (length ends) xs ends c.requires.answered.1 c.loop-hand.hand c.loop-hand.hand _ (omega arith) c.loop-hand-test.true in
    (subst (λ (e : EndState). HasAnsweredShare c.requires.answered.0 c.args.installs.now (every c.loop-hand.hand (length ends - 1) xs) e) (sym c.index-ends-hand.is) at).runs

pub loop-hand-preserved : goal.loop-hand-preserved
loop-hand-preserved c =
    let e = c.in_ok-share_again.ensures in
    record {
      run = shares-more c.args.installs.now (length c.args.ends.now - 1) c.loop-hand.hand (c.loop-hand.hand + 1) (arrivals_of c.args.capture.now c.args.frames.now) c.loop-hand.shares c.push.new.self c.in_ok-share_again.field-0
          (omega arith) c.loop-hand.invariant.run e.runs c.in_ok-push.ensures.ok;
      kept = kept-more (length c.args.installs.now) c.args.ends.now c.loop-hand.hand c.index-ends-hand.result c.loop-hand.shares c.push.new.self c.in_ok-share_again.field-0
          c.loop-hand-test.true c.index-ends-hand.is c.loop-hand.invariant.kept e.kept c.in_ok-push.ensures.ok;
    }

pub returns-clause-kept : goal.returns-clause-kept
returns-clause-kept c = kept-all (length c.args.installs.now) c.args.ends.now c.loop-hand.hand c.loop-hand.shares c.loop-hand-test.false c.loop-hand.invariant.kept
