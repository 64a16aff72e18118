use Rattle.child_laws.proofs.KnowLaws.{unsettled_exact}
use Rattle.child_laws.proofs.laws.unsettled_is_exact.Goals as goal

pub returns : goal.returns
returns c = unsettled_exact
