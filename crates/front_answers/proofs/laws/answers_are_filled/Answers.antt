use Rattle.front_answers.proofs.AnswerLaws.{answers_are_filled}
use Rattle.front_answers.proofs.laws.answers_are_filled.Goals as goal

pub returns : goal.returns
returns c = answers_are_filled
