use Rattle.promise_laws.proofs.CompleteLaws.{answers_complete}
use Rattle.promise_laws.proofs.laws.answers_are_complete.Goals as goal

pub returns : goal.returns
returns c = answers_complete
