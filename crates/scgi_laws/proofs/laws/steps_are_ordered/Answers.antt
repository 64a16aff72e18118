use Rattle.scgi_laws.proofs.OrderLaws.{steps_are_ordered}
use Rattle.scgi_laws.proofs.laws.steps_are_ordered.Goals as goal

pub returns : goal.returns
returns c = steps_are_ordered
