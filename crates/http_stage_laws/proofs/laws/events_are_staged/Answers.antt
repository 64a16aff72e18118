use Rattle.http_stage_laws.proofs.HeardEvents.{events_are_staged}
use Rattle.http_stage_laws.proofs.laws.events_are_staged.Goals as goal

pub returns : goal.returns
returns c = events_are_staged
