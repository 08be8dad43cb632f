use Rattle.policy_state.specs.Policy.{arp_lines}
use Rattle.policy_state.proofs.Verdicts.{arp-answers, other-silent}
use Rattle.policy_state.proofs.laws.arp_answers_its_frames.Goals as goal

pub returns-clause-answers : goal.returns-clause-answers
returns-clause-answers c = arp-answers

pub returns-clause-silent : goal.returns-clause-silent
returns-clause-silent c = λ basis frame e. other-silent frame 0x806 e (arp_lines basis frame)
