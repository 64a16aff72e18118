use Rattle.conn_laws.proofs.EndLaws.{ends_tested}
use Rattle.conn_laws.proofs.laws.ends_are_tested.Goals as goal

pub returns : goal.returns
returns c = ends_tested
