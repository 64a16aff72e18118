use Rattle.http_stage_laws.proofs.LookLaws.{looks_staged}
use Rattle.http_stage_laws.proofs.laws.looks_are_staged.Goals as goal

pub returns : goal.returns
returns c = looks_staged
