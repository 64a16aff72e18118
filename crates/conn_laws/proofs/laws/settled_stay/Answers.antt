use Rattle.conn_laws.proofs.EndLaws.{all_settled_stay}
use Rattle.conn_laws.proofs.laws.settled_stay.Goals as goal

pub returns : goal.returns
returns c = all_settled_stay
