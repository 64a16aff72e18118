use Rattle.http_stage_laws.proofs.HeardStays.{events_stay_lost}
use Rattle.http_stage_laws.proofs.laws.events_stay_lost.Goals as goal

pub returns : goal.returns
returns c = events_stay_lost
