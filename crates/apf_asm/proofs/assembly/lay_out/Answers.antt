use Rattle.std.proofs.Common.{◌≡◌, Option, None, inr, arith, subst}
use Rattle.std.specs.Prelude.{IfSome}
use Rattle.apf_asm.specs.declared.spacing.Spacing.{Spacing}
use Rattle.apf_asm.specs.Refusals.{refusal}
use Rattle.apf_asm.specs.Spacing.{code_length}
use Rattle.apf_asm.proofs.Answering.{answer_long, answer_none}
use Rattle.apf_asm.proofs.assembly.lay_out.Goals as goal

pub returns-then-spacing-clause-err : goal.returns-then-spacing-clause-err
returns-then-spacing-clause-err c =
    let xs = c.args.items.now in
    let labels = subst (λ (o : Option Spacing). IfSome o (λ s. refusal xs ≡ None)) c.in-Some.is c.in_ok-spacing.ensures.labels in
    let bytes = subst (λ (o : Option Spacing). IfSome o (λ s. s.bytes ≡ code_length xs)) c.in-Some.is c.in_ok-spacing.ensures.bytes in
    inr (answer_long xs c.in-Some.spacing.bytes labels bytes c.if-spacing.true)

pub returns-clause-ok : goal.returns-clause-ok
returns-clause-ok c =
    let xs = c.args.items.now in
    let labels = subst (λ (o : Option Spacing). IfSome o (λ s. refusal xs ≡ None)) c.in-Some.is c.in_ok-spacing.ensures.labels in
    let bytes = subst (λ (o : Option Spacing). IfSome o (λ s. s.bytes ≡ code_length xs)) c.in-Some.is c.in_ok-spacing.ensures.bytes in
    answer_none xs labels (omega (arith, bytes, c.if-spacing.false))
