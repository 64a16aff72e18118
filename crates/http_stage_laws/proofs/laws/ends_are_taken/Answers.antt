use Rattle.http_stage_laws.proofs.EndLaws.{ends_taken}
use Rattle.http_stage_laws.proofs.laws.ends_are_taken.Goals as goal

pub returns : goal.returns
returns c = ends_taken
