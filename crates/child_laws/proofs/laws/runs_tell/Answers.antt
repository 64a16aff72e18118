use Rattle.child_laws.proofs.KnowLaws.{tells_last}
use Rattle.child_laws.proofs.laws.runs_tell.Goals as goal

pub returns : goal.returns
returns c = tells_last
