use Rattle.http_stage_laws.proofs.HeardStart.{starts_rest}
use Rattle.http_stage_laws.proofs.laws.starts_rest.Goals as goal

pub returns : goal.returns
returns c = starts_rest
