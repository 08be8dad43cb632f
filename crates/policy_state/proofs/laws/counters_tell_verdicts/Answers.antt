use Rattle.apf_coding.specs.declared.machine.Verdict.TheVariants.{Pass, Drop}
use Rattle.policy_state.proofs.Verdicts.{policy-tells}
use Rattle.policy_state.proofs.laws.counters_tell_verdicts.Goals as goal

pub returns-clause-pass : goal.returns-clause-pass
returns-clause-pass c basis age frame counter e = let told = policy-tells basis age frame Pass counter e in (told.least, told.most)

pub returns-clause-drop : goal.returns-clause-drop
returns-clause-drop c basis age frame counter e = let told = policy-tells basis age frame Drop counter e in (told.least, told.most)
