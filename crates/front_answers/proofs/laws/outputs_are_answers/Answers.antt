use Rattle.front_answers.proofs.AnswerLaws.{outputs_are_answers}
use Rattle.front_answers.proofs.laws.outputs_are_answers.Goals as goal

pub returns : goal.returns
returns c = outputs_are_answers
