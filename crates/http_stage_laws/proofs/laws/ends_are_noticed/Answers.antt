use Rattle.http_stage_laws.proofs.EndLaws.{ends_noticed}
use Rattle.http_stage_laws.proofs.laws.ends_are_noticed.Goals as goal

pub returns : goal.returns
returns c = ends_noticed
