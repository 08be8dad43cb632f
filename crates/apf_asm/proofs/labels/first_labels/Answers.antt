use Rattle.std.proofs.Common.{arith, sym, ap, ◌∙◌, Option, ◌≡◌, ◌+◌, ℕ, take, length, [], ◌∷◌, ◌++◌}
use Rattle.std.specs.Prelude.{not}
use Rattle.std.specs.Option.{is_some}
use Rattle.std.proofs.lemmas.List.{length-take}
use Rattle.apf_asm.specs.declared.item.Item.{Item}
use Rattle.apf_asm.specs.declared.labels.Labels.{Labels}
use Rattle.apf_asm.proofs.Here.{take_here}
use Rattle.apf_asm.proofs.LabelPlaces.{noted_new, noted_old, noted_other}
use Rattle.apf_asm.specs.Refusals.{stands}
use Rattle.apf_asm.specs.Labels.{found, label_found}
use Rattle.apf_asm.proofs.labels.first_labels.Goals as goal
use Rattle.apf_asm.proofs.labels.first_labels.Goals.{in-Label+then-is_none+in_ok-insert, in-Label+else-is_none, in_default}

pub loop-number-init : goal.loop-number-init
unfolding stands
loop-number-init c = c.in_ok-first.ensures

pub loop-number-preserved : goal.loop-number-preserved
loop-number-preserved c =
    let i = c.loop-number.number in
    let all = c.args.items.now in
    let item = c.index-items-number.result in
    let before = take i all in
    let more : take (i + 1) all ≡ before ++ item ∷ [] = take_here all i item c.loop-number-test.true c.index-items-number.is in
    let long : i ≡ length before = omega (arith, length-take i all, c.loop-number-test.true) in
    let old : ℕ → Option ℕ = λ k. found c.loop-number.first.near.items c.loop-number.first.far k in
    λ k. elim c.match-item.branch [
      | in-Label+then-is_none+in_ok-insert w ↦
          ap (λ (t : Labels). found t.near.items t.far k) w.first-is
          ∙ noted_new old (λ q. found w.insert.new.self.near.items w.insert.new.self.far q) before w.in-Label.label i c.loop-number.invariant (sym (ap is_some w.get.ensures) ∙ w.is_none.ensures ∙ ap not w.if-is_none.true) long w.in_ok-insert.ensures.label w.in_ok-insert.ensures.others k
          ∙ ap (λ (x : Item). label_found k (before ++ x ∷ [])) (sym w.in-Label.is)
          ∙ ap (label_found k) (sym more)
      | in-Label+else-is_none w ↦
          ap (λ (t : Labels). found t.near.items t.far k) w.first-is
          ∙ noted_old old before w.in-Label.label c.loop-number.invariant (sym (ap is_some w.get.ensures) ∙ w.is_none.ensures ∙ ap not w.if-is_none.false) k
          ∙ ap (λ (x : Item). label_found k (before ++ x ∷ [])) (sym w.in-Label.is)
          ∙ ap (label_found k) (sym more)
      | in_default w ↦
          ap (λ (t : Labels). found t.near.items t.far k) w.first-is
          ∙ noted_other old before item c.loop-number.invariant w.in_default.not-Label k
          ∙ ap (label_found k) (sym more)
    ]
