-- The code of items, or their first refusal, goes by its part of the plan.
use Rattle.std.proofs.Common.{◌≡◌, ◌⊎◌, inl, inr, ℕ, List, Option, None, Some, Ok, Err, refl, sym, ap, subst, ◌∙◌}
use Rattle.apf_asm.specs.declared.item.Item.{Item}
use Rattle.apf_asm.specs.declared.item.AsmError.{AsmError}
use Rattle.apf_asm.specs.declared.item.AsmError.TheVariants as labels
use Rattle.apf_asm.specs.Layout.{layout}
use Rattle.apf_asm.specs.Refusals.{answer}
use Rattle.command_plan.specs.declared.fault.Refusal.{Refusal}
use Rattle.command_plan.specs.declared.fault.Refusal.TheVariants.{Twice, Unknown, Backward, CodeTooLong}
use Rattle.command_plan.specs.declared.fault.Fault.TheVariants as faults
use Rattle.command_plan.specs.Follows.{Stage, Follows, Thinks}
use Rattle.command_plan.specs.Plan.{Done}
use Rattle.command_plan.proofs.Following.{done, fails, refused, then_on}
use Rattle.code_commands.specs.Asm.{accepts, assembles}

module _ (items : List Item) where
  pub has_code : (bytes : List ℕ) → answer items ≡ None → bytes ≡ (layout items).bytes → Thinks (assembles items) (Ok bytes)
  has_code bytes none is = record {
    at = λ s.
        then_on (accepts (answer items)) (λ _. Done (layout items).bytes) tt s s s (Ok bytes)
        (subst (λ (o : Option AsmError). Follows (accepts o) s s (Ok tt)) (sym none) (done tt s (Ok tt) refl))
        (done (layout items).bytes s (Ok bytes) (ap (λ (l : List ℕ). Ok l) is));
  }

  -- the refusal of an error that isn't want of memory
  abbrev Refuses : AsmError → Refusal → Type 0
  Refuses (labels.Twice item label) refusal = refusal ≡ Twice item label
  Refuses (labels.Unknown item label) refusal = refusal ≡ Unknown item label
  Refuses (labels.Backward item label) refusal = refusal ≡ Backward item label
  Refuses (labels.TooLong bytes) refusal = refusal ≡ CodeTooLong
  Refuses labels.OutOfMemory refusal = ⊥

  refuses : (error : AsmError) (refusal : Refusal) (s : Stage) → Refuses error refusal → Follows (accepts (Some error)) s s (Err (faults.Refused refusal))
  refuses (labels.Twice item label) refusal s is = refused (Twice item label) s _ (ap (λ (r : Refusal). Err (faults.Refused r)) is)
  refuses (labels.Unknown item label) refusal s is = refused (Unknown item label) s _ (ap (λ (r : Refusal). Err (faults.Refused r)) is)
  refuses (labels.Backward item label) refusal s is = refused (Backward item label) s _ (ap (λ (r : Refusal). Err (faults.Refused r)) is)
  refuses (labels.TooLong bytes) refusal s is = refused CodeTooLong s _ (ap (λ (r : Refusal). Err (faults.Refused r)) is)
  refuses labels.OutOfMemory refusal s is = absurd is

  pub has_no_code : (error known : AsmError) (refusal : Refusal) → error ≡ known → (error ≡ labels.OutOfMemory) ⊎ (answer items ≡ Some error) → Refuses known refusal
      → Thinks (assembles items) (Err (faults.Refused refusal))
  has_no_code error known refusal same (inl lacks) is = absurd (subst (λ (e : AsmError). Refuses e refusal) (sym same ∙ lacks) is)
  has_no_code error known refusal same (inr found) is = record {
    at = λ s.
        fails (accepts (answer items)) (λ _. Done (layout items).bytes) (faults.Refused refusal) s s _ refl
        (subst (λ (o : Option AsmError). Follows (accepts o) s s (Err (faults.Refused refusal))) (sym (found ∙ ap (λ (e : AsmError). Some e) same)) (refuses known refusal s is));
  }
