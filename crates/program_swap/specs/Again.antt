-- Answers that are given again.
use Rattle.std.specs.Prelude.{◌≡◌, ℕ, ◌<◌, ◌≤◌, List, [], ◌∷◌, ◌++◌}
use Rattle.filter_core.specs.Coded.{IsAnswer}
use Rattle.filter_core.specs.declared.install.Install.{Install}
use Rattle.policy_state.specs.declared.basis.Answer.{Answer}
use Rattle.program_swap.specs.Order.{EndState}
use Rattle.program_swap.specs.declared.again.ShareAnswers.{ShareAnswers}

-- an answer more: that of before, where the last install or one before it gave it, with its counters raised; else the last
-- install's own
pub record AnswersAgain (last : Install) (frame : List ℕ) (now : ℕ) (kept : Answer) (old new : ShareAnswers) : Type 0 where
  pub answer : Answer
  pub added : new.answers ≡ old.answers ++ answer ∷ []
  pub same : kept.number ≤ last.number → answer ≡ kept
  pub raised : kept.number ≤ last.number → (i : Install) (second : ℕ) (after : List ℕ) → IsAnswer i frame second old.memory kept after → new.memory ≡ after
  pub anew : last.number < kept.number → IsAnswer last frame now old.memory answer new.memory

-- what was given again is what was kept, wherever that names one of so many installs, which are numbered from 0
abbrev pub KeepsNamed : ℕ → List Answer → List Answer → Type 0
KeepsNamed count [] [] = Unit {0}
KeepsNamed count (k ∷ kept) (a ∷ answers) = (k.number < count → a ≡ k) × KeepsNamed count kept answers
KeepsNamed count kept answers = ⊥

-- and so for each end
abbrev pub AllKeepNamed : ℕ → List EndState → List (List Answer) → Type 0
AllKeepNamed count [] [] = Unit {0}
AllKeepNamed count (e ∷ ends) (answers ∷ more) = KeepsNamed count e.answers answers × AllKeepNamed count ends more
AllKeepNamed count ends answers = ⊥
