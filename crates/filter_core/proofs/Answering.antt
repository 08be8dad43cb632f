-- What an install's code gives, from what it means.
use Rattle.std.proofs.Common.{◌≡◌, ℕ, ◌-◌, ◌<◌, ◌≤◌, ◌^◌, List, length, slice_index, ap, ◌∙◌, arith}
use Rattle.std.proofs.Math.Logic.{∥∥₁_elim}
use Rattle.apf_coding.specs.Run.{Run, run}
use Rattle.apf_coding.specs.declared.machine.Outcome.{Outcome}
use Rattle.apf_generate.specs.Means.{Means}
use Rattle.apf_generate.proofs.OneWay.{Means-prop}
use Rattle.policy_state.specs.Whole.{policy, counter_of_fate}
use Rattle.policy_state.specs.declared.basis.Answer.{Answer}
use Rattle.filter_core.specs.Coded.{IsAnswer}
use Rattle.filter_core.specs.declared.install.Install.{Install}
use Rattle.apf_base.specs.Limits.{frame_limit, memory_size}

-- what an install keeps of its code
pub meaning : (i : Install) → Means i.code i.basis
meaning i = ∥∥₁_elim i.means (Means-prop i.code i.basis) (λ m. m)

-- ---- answers

-- an answer that is put together from a run and the policy's counter
pub answered : (i : Install) (frame before after : List ℕ) (now : ℕ) (o : Outcome) (result : Answer) →
    ((k : ℕ) → slice_index frame k < 256) → length frame ≤ frame_limit → now < 2 ^ 32 → length before ≡ memory_size →
    record { outcome = o; memory = after } ≡ run i.code before frame (now - i.at) →
    result.number ≡ i.number → result.age ≡ now - i.at → result.verdict ≡ o.verdict → result.steps ≡ o.steps →
    result.counter ≡ counter_of_fate (policy i.basis (now - i.at) frame) →
    IsAnswer i frame now before result after
answered i frame before after now o result bytes few early whole ran number age verdict steps counter =
    let soon : now - i.at < 2 ^ 32 = omega arith in
    let meant = (meaning i).means frame (now - i.at) before bytes few soon whole in
    let left = ap (λ (r : Run). r.memory) ran in
    record {
      number = number;
      age = age;
      verdict = verdict ∙ ap (λ (r : Run). r.outcome.verdict) ran;
      steps = steps ∙ ap (λ (r : Run). r.outcome.steps) ran;
      ran = left;
      decided = verdict ∙ ap (λ (r : Run). r.outcome.verdict) ran ∙ meant.verdict;
      counter = counter;
      raised = left ∙ meant.left;
    }
