use Rattle.http_stage_laws.proofs.WhyLaws.{whys_due}
use Rattle.http_stage_laws.proofs.laws.whys_are_due.Goals as goal

pub returns : goal.returns
returns c = whys_due
