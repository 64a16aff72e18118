use Rattle.child_laws.proofs.StartLaws.{starts_known}
use Rattle.child_laws.proofs.laws.starts_are_known.Goals as goal

pub returns : goal.returns
returns c = starts_known
