-- An error is answered after the read that gave it.
use Rattle.std.proofs.Common.{refl, subst}
use Rattle.ws_link.specs.Answers.{AnswersOnce}
use Rattle.ws_link.specs.State.{LinkState}
use Rattle.ws_link.proofs.LinkLemmas.{once_error}
use Rattle.ws_link.proofs.link.Link.read_once.Goals as goal

pub returns-in-Err : goal.returns-in-Err
returns-in-Err c =
    subst (λ (o : LinkState). AnswersOnce c.answer_error.result o c.answer_error.new.self) c.self.view_is
    (once_error c.answer_error.result c.in-Err.error _ _ c.answer_error.new.self c.in-Err.ensures refl c.answer_error.ensures)
