use Rattle.trace_model.proofs.AnswerLaws.{answer-push}
use Rattle.trace_model.proofs.laws.answers_stay.Goals as goal

pub returns : goal.returns
returns c = answer-push
