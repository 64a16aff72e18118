use Rattle.std.proofs.Common.{refl}
use Rattle.exchange_request.proofs.KnowsLaws.{knows_new}
use Rattle.exchange_request.proofs.incoming.Incoming.new.Goals as goal

pub returns-clause-knows : goal.returns-clause-knows
returns-clause-knows c two = knows_new _ two refl refl refl c.new.ensures
