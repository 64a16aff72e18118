use Rattle.good_step_laws.proofs.Both.KindLaws.{phases_keep_laws}
use Rattle.good_step_laws.proofs.both_laws.phases_keep_laws.Goals as goal

pub returns : goal.returns
returns c = phases_keep_laws
