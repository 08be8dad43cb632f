use Rattle.policy_state.specs.Ip4.{ip4_lines}
use Rattle.policy_state.proofs.Verdicts.{ip4-answers, other-silent}
use Rattle.policy_state.proofs.laws.ip4_answers_its_frames.Goals as goal

pub returns-clause-answers : goal.returns-clause-answers
returns-clause-answers c = ip4-answers

pub returns-clause-silent : goal.returns-clause-silent
returns-clause-silent c = λ basis frame e. other-silent frame 0x800 e (ip4_lines basis frame)
