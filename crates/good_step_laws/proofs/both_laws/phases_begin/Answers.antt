use Rattle.good_step_laws.proofs.Both.KindLaws.{phases_begin}
use Rattle.good_step_laws.proofs.both_laws.phases_begin.Goals as goal

pub returns : goal.returns
returns c = phases_begin
