use Rattle.http_stage_laws.proofs.HeardOffers.{looks_are_heard}
use Rattle.http_stage_laws.proofs.laws.looks_are_heard.Goals as goal

pub returns : goal.returns
returns c = looks_are_heard
