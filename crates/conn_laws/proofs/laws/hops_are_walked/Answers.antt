use Rattle.conn_laws.proofs.HopLaws.{reaches_walk}
use Rattle.conn_laws.proofs.laws.hops_are_walked.Goals as goal

pub returns : goal.returns
returns c = reaches_walk
