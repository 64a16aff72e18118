use Rattle.child_laws.proofs.KnowLaws.{ends_exact}
use Rattle.child_laws.proofs.laws.ends_are_exact.Goals as goal

pub returns : goal.returns
returns c = ends_exact
