use Rattle.scgi_laws.proofs.DueLaws.{runs_are_answered}
use Rattle.scgi_laws.proofs.laws.runs_are_answered.Goals as goal

pub returns : goal.returns
returns c = runs_are_answered
