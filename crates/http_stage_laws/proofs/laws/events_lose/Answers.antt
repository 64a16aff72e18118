use Rattle.http_stage_laws.proofs.HeardLoss.{events_lose}
use Rattle.http_stage_laws.proofs.laws.events_lose.Goals as goal

pub returns : goal.returns
returns c = events_lose
