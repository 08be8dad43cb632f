use Rattle.std.proofs.Common.{◌<◌, ◌-◌, length, map, arith}
use Rattle.std.proofs.lemmas.List.{length-map}
use Rattle.dealt_items.specs.Dealing.{woven}
use Rattle.dealt_items.proofs.Weaving.{weaves-none, weaves-stop, weaves-more}
use Rattle.dealt_items.proofs.weave.woven.Goals as goal

pub loop-k-init : goal.loop-k-init
loop-k-init g c = record {
  hand = c.requires;
  row = omega arith;
  woven = weaves-none c.new-items.result c.args.n (map g.H.Hand.kept c.args.hands.now) c.new-items.ensures;
}

pub returns-in_default : goal.returns-in_default
returns-in_default g c =
    let shares = map g.H.Hand.kept c.args.hands.now in
    let hand : c.loop-k.hand < length shares = omega (arith, length-map c.args.hands.now g.H.Hand.kept, c.loop-k.invariant.hand) in
    weaves-stop c.loop-k.items (woven c.args.n shares) (c.args.n - c.loop-k._k) c.loop-k.row c.loop-k.hand shares c.kept_at.result
    hand c.kept_at.ensures c.in_default.is c.loop-k.invariant.woven

pub loop-k-preserved : goal.loop-k-preserved
loop-k-preserved g c =
    let shares = map g.H.Hand.kept c.args.hands.now in
    let long = length-map c.args.hands.now g.H.Hand.kept in
    let hand : c.loop-k.hand < length shares = omega (arith, long, c.loop-k.invariant.hand) in
    record {
      hand = c.after-place.ensures.hand;
      row = omega (arith, c.after-place.ensures.row, c.loop-k.invariant.row);
      woven =
          weaves-more c.loop-k.items c.push.new.self (woven c.args.n shares) c.args.n c.loop-k._k c.loop-k.row c.loop-k.hand (length c.args.hands.now) shares c.kept_at.result c.in-Some.next c.after-place.result
          c.loop-k-test.true hand c.kept_at.ensures c.in-Some.is c.in_ok-push.ensures.ok long c.after-place.ensures.place c.loop-k.invariant.woven;
    }
