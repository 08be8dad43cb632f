use Rattle.std.proofs.Common.{◌-◌, sym, ◌∙◌, arith}
use Rattle.apf_asm.specs.Labels.{found}
use Rattle.apf_asm.proofs.Spaced.{turn, turn_refused, none_found, spaced_start, spaced_more, spaced_end}
use Rattle.apf_asm.proofs.spacing.space.Goals as goal

pub loop-number-init : goal.loop-number-init
loop-number-init c = spaced_start c.args.items.now _ _ _ (c.in_ok-widths.ensures.items_if_clones_equal (λ y e. e)) (c.in_ok-offsets.ensures.items_if_clones_equal (λ y e. e)) c.in_ok-behind.ensures

pub returns-in_default-clause-refused : goal.returns-in_default-clause-refused
returns-in_default-clause-refused c = λ e.
    let positive = c.loop-number-test.true in
    let b = c.loop-number.behind in
    turn_refused c.args.items.now (c.loop-number.number - 1) c.loop-number.number c.index-items-number.result _ _ (λ k. found b.near.items b.far k) _ (omega arith) c.loop-number.invariant c.index-items-number.is (none_found c.item_far.result c.in_default.not-Some ∙ c.item_far.ensures)

pub item_offset-offset-requires-clause-order : goal.item_offset-offset-requires-clause-order
item_offset-offset-requires-clause-order c =
    let positive = c.loop-number-test.true in
    let b = c.loop-number.behind in
    (turn c.args.items.now (c.loop-number.number - 1) c.loop-number.number c.index-items-number.result _ _ (λ k. found b.near.items b.far k) _ c.in-Some.there c.requires.forms c.requires.few (omega arith) c.loop-number.invariant (sym c.in-Some.is ∙ c.item_far.ensures)).order

pub item_offset-offset-requires-clause-small : goal.item_offset-offset-requires-clause-small
item_offset-offset-requires-clause-small c =
    let positive = c.loop-number-test.true in
    let b = c.loop-number.behind in
    (turn c.args.items.now (c.loop-number.number - 1) c.loop-number.number c.index-items-number.result _ _ (λ k. found b.near.items b.far k) _ c.in-Some.there c.requires.forms c.requires.few (omega arith) c.loop-number.invariant (sym c.in-Some.is ∙ c.item_far.ensures)).small

pub overflow_add-here : goal.overflow_add-here
overflow_add-here c =
    let positive = c.loop-number-test.true in
    let b = c.loop-number.behind in
    let t = turn c.args.items.now (c.loop-number.number - 1) c.loop-number.number c.index-items-number.result _ _ (λ k. found b.near.items b.far k) _ c.in-Some.there c.requires.forms c.requires.few (omega arith) c.loop-number.invariant (sym c.in-Some.is ∙ c.item_far.ensures) in
    omega (arith, t.small, c.size-here.ensures.small)

pub loop-number-preserved : goal.loop-number-preserved
loop-number-preserved c =
    let positive = c.loop-number-test.true in
    let b = c.loop-number.behind in
    spaced_more c.args.items.now (c.loop-number.number - 1) c.loop-number.number c.index-items-number.result _ _ (λ k. found b.near.items b.far k) _ _ _ _ c.in-Some.there _ (omega arith) c.loop-number.invariant c.index-items-number.is (sym c.in-Some.is ∙ c.item_far.ensures) c.item_offset-offset.ensures c.item_width-width.ensures c.in_ok-note.ensures (omega (arith, c.size-here.ensures.size))

pub returns-clause-labels : goal.returns-clause-labels
returns-clause-labels c = spaced_end c.args.items.now c.loop-number.number _ _ _ _ (omega (arith, c.loop-number-test.false)) c.loop-number.invariant
