use Rattle.child_core.proofs.StartLaws.{Knows-start}
use Rattle.child_core.proofs.laws.starts_are_known.Goals as goal

pub returns : goal.returns
returns c = Knows-start
