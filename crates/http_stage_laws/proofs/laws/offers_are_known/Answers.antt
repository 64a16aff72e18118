use Rattle.http_stage_laws.proofs.HeardOffers.{offers_are_known}
use Rattle.http_stage_laws.proofs.laws.offers_are_known.Goals as goal

pub returns : goal.returns
returns c = offers_are_known
