-- A command's text by a property, and its end.
use Rattle.std.proofs.Common.{◌≡◌, ℕ, List, ◌++◌, Option, None, Some, Result, Ok, Err, refl, sym, subst}
use Rattle.std.specs.List.{concat}
use Rattle.apf_base.specs.Causes.{Rose}
use Rattle.apf_base.specs.Streams.{AppendsPart, AppendsAll}
use Rattle.command_plan.specs.declared.fault.Refusal.{Refusal}
use Rattle.command_plan.specs.declared.fault.Fault.{Fault}
use Rattle.command_plan.specs.declared.fault.Fault.TheVariants.{Refused, OutOfMemory, Write}
use Rattle.command_plan.specs.Plan.{Plan, says, says_some, unless, ◌>>=◌}
use Rattle.command_plan.specs.Follows.{Stage, Later, Follows, Sinking, Writes}
use Rattle.command_plan.specs.Follows as f
use Rattle.command_plan.proofs.Following.{done, fails, refused, then_on, then_pick}
use Rattle.command_plan.proofs.Saying.{all_said, part_of_more}

abbrev pub end_of : Option Refusal → Result (Unit {0}) Fault
end_of None = Ok tt
end_of (Some refusal) = Err (Refused refusal)

pub ended : (refusal : Option Refusal) (a : Stage) → Follows (unless refusal) a a (end_of refusal)
ended None a = done tt a (Ok tt) refl
ended (Some refusal) a = refused refusal a (Err (Refused refusal)) refl

-- what is seen is known to be this
pub writes_seen : {A : Type 0} (p : Plan A) (a b x y : Sinking) (r : Result A Fault) → a ≡ x → b ≡ y → Writes p x y r → Writes p a b r
writes_seen p a b x y r e f h = subst (λ (s : Sinking). Writes p s b r) (sym e) (subst (λ (s : Sinking). Writes p x s r) (sym f) h)

module _ (a b : Stage) (later : Later a b) where
  -- memory was wanting behind the first lines
  pub first_said : (first rest : List (List ℕ)) → AppendsAll a.out.held b.out.held first → Follows (says (first ++ rest)) a b (Err OutOfMemory)
  unfolding Follows
  first_said first rest h = f.Says.no_memory refl later (first, rest, refl, h)

  -- a write failed within the lines
  pub part_said : (xs ys : List (List ℕ)) → b.shelf.left ≡ a.shelf.left → Rose a.out.faults b.out.faults → AppendsPart a.out.held b.out.held (concat xs)
      → Follows (says (xs ++ ys)) a b (Err Write)
  unfolding Follows
  part_said xs ys left rose h = f.Says.unwritten refl later left rose (part_of_more a.out.held b.out.held xs ys h)

module _ (IsText : List (List ℕ) → Type 0) (refusal : Option Refusal) (a b : Stage) (later : Later a b) where
  -- all lines were written, and the call ended as defined
  pub wrote_all : (lines : List (List ℕ)) → IsText lines → b.shelf.left ≡ a.shelf.left → AppendsAll a.out.held b.out.held lines → Follows (says_some IsText refusal) a b (end_of refusal)
  wrote_all lines text left h =
      then_pick IsText (λ l. says l >>= λ _. unless refusal) lines a b (end_of refusal) text
      (then_on (says lines) (λ _. unless refusal) tt a b b (end_of refusal) (all_said lines a b later left h) (ended refusal b))

  pub wrote_first : (first rest : List (List ℕ)) → IsText (first ++ rest) → AppendsAll a.out.held b.out.held first → Follows (says_some IsText refusal) a b (Err OutOfMemory)
  wrote_first first rest text h =
      then_pick IsText (λ l. says l >>= λ _. unless refusal) (first ++ rest) a b (Err OutOfMemory) text
      (fails (says (first ++ rest)) (λ _. unless refusal) OutOfMemory a b (Err OutOfMemory) refl (first_said a b later first rest h))
