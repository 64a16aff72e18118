use Rattle.child_laws.proofs.ActLaws.{shuts_known}
use Rattle.child_laws.proofs.laws.shuts_are_known.Goals as goal

pub returns : goal.returns
returns c = shuts_known
