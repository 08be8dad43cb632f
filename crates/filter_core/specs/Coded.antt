-- Installs with their codes, and answers by them.
use Rattle.std.specs.Prelude.{◌≡◌, ℕ, ◌-◌, List}
use Rattle.apf_coding.specs.Run.{run}
use Rattle.apf_generate.specs.Means.{memory_after}
use Rattle.policy_state.specs.declared.basis.Answer.{Answer}
use Rattle.policy_state.specs.Whole.{verdict_of, counter_of_fate}
use Rattle.filter_core.specs.declared.install.Install.{Install}
use Rattle.filter_core.specs.Installs.{Installed}
use Rattle.filter_core.specs.Steps.{answer_of}

-- an install without its code
abbrev pub plain : Install → Installed
plain i = record { number = i.number; at = i.at; basis = i.basis; left = i.left }

-- An answer and the memory after it: those of the run of the install's code at its age, and by that those of the policy.
pub record IsAnswer (i : Install) (frame : List ℕ) (now : ℕ) (before : List ℕ) (result : Answer) (after : List ℕ) : Type 0 where
  pub number : result.number ≡ i.number
  pub age : result.age ≡ now - i.at
  pub verdict : result.verdict ≡ (run i.code before frame (now - i.at)).outcome.verdict
  pub steps : result.steps ≡ (run i.code before frame (now - i.at)).outcome.steps
  pub ran : after ≡ (run i.code before frame (now - i.at)).memory
  pub decided : result.verdict ≡ verdict_of (answer_of (plain i) frame now).fate
  pub counter : result.counter ≡ counter_of_fate (answer_of (plain i) frame now).fate
  pub raised : after ≡ memory_after (answer_of (plain i) frame now).fate before
