use Rattle.std.proofs.Common.{ℕ, ◌∙◌, refl, ap, rules, arith}
use Rattle.policy_state.specs.Whole.{policy, counter_of_fate}
use Rattle.filter_core.proofs.Answering.{answered}
use Rattle.filter_core.proofs.install.Install.answer.Goals as goal

pub returns : goal.returns
returns c =
    answered c.args.self.now c.args.frame.now c.args.memory.now c.interpret-outcome.new.memory c.args.now c.interpret-outcome.result _
    (λ k. omega (arith, c.type_inv.frame k)) c.requires c.ranges.now.fits (search (rules, c.well_formed))
    (c.interpret-outcome.ensures.run ∙ cc)
    refl c.saturating_sub-age.ensures refl refl
    (c.decide-counter.ensures.counter ∙ ap (λ (age : ℕ). counter_of_fate (policy c.args.self.now.basis age c.args.frame.now)) c.saturating_sub-age.ensures)
