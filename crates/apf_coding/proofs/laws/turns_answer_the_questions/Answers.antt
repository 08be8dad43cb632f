use Rattle.apf_coding.proofs.Sequence.{answer-turn}
use Rattle.apf_coding.proofs.laws.turns_answer_the_questions.Goals as goal

pub returns : goal.returns
returns c program frame p lt = answer-turn program frame p.steps p.place p.state lt
