use Rattle.http_stage_laws.proofs.HeardKeeps.{events_keep}
use Rattle.http_stage_laws.proofs.laws.events_keep.Goals as goal

pub returns : goal.returns
returns c = events_keep
