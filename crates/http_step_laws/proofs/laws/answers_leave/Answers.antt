use Rattle.http_step_laws.proofs.AnswerLaws.{answers_leave}
use Rattle.http_step_laws.proofs.laws.answers_leave.Goals as goal

pub returns : goal.returns
returns c = answers_leave
