use Rattle.std.proofs.Common.{sym, ◌∙◌, inr}
use Rattle.apf_asm.proofs.Refusing.{refused_is, refused_goes_on, refused_ends, refused_all, none_left}
use Rattle.apf_asm.proofs.labels.first_refusal.Goals as goal

pub returns-in-Some : goal.returns-in-Some
returns-in-Some c =
    let xs = c.args.items.now in
    let i = c.loop-number.number in
    let x = c.index-items-number.result in
    let lt = c.loop-number-test.true in
    let is = c.index-items-number.is in
    let wrong = refused_is xs i x _ lt is c.in-Ok.ensures ∙ sym c.item_refused.ensures ∙ c.in-Some.is in
    inr (c.loop-number.invariant ∙ refused_ends xs i x c.in-Some.error lt is wrong)

pub loop-number-preserved : goal.loop-number-preserved
loop-number-preserved c =
    let xs = c.args.items.now in
    let i = c.loop-number.number in
    let x = c.index-items-number.result in
    let lt = c.loop-number-test.true in
    let is = c.index-items-number.is in
    let fine = refused_is xs i x _ lt is c.in-Ok.ensures ∙ sym c.item_refused.ensures ∙ none_left c.item_refused.result c.in_default-item_refused.not-Some in
    c.loop-number.invariant ∙ refused_goes_on xs i x lt is fine

pub unreachable-requires : goal.unreachable-requires
unreachable-requires c = c.requires.refused (c.loop-number.invariant ∙ refused_all c.args.items.now c.loop-number.number c.loop-number-test.false)
