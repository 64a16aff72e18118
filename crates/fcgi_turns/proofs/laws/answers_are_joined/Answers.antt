use Rattle.fcgi_turns.proofs.AnswerLaws.{answers_are_joined}
use Rattle.fcgi_turns.proofs.laws.answers_are_joined.Goals as goal

pub returns : goal.returns
returns c = answers_are_joined
