use Rattle.policy_state.proofs.Verdicts.{questions-answer, policy-short}
use Rattle.policy_state.proofs.laws.questions_are_answered.Goals as goal

pub returns-clause-last : goal.returns-clause-last
returns-clause-last c = questions-answer

pub returns-clause-short : goal.returns-clause-short
returns-clause-short c = policy-short
