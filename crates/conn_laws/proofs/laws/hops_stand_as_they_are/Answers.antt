use Rattle.conn_laws.proofs.HopLaws.{reaches_stands}
use Rattle.conn_laws.proofs.laws.hops_stand_as_they_are.Goals as goal

pub returns : goal.returns
returns c = reaches_stands
