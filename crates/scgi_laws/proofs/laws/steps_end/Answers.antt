use Rattle.scgi_laws.proofs.EndLaws.{steps_end}
use Rattle.scgi_laws.proofs.laws.steps_end.Goals as goal

pub returns : goal.returns
returns c = steps_end
