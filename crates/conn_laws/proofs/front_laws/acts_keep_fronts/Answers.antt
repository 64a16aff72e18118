use Rattle.conn_laws.proofs.FrontLaws.{acts_keep}
use Rattle.conn_laws.proofs.front_laws.acts_keep_fronts.Goals as goal

pub returns : goal.returns
returns c = acts_keep
