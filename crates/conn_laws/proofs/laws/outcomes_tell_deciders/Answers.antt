use Rattle.conn_laws.proofs.StartLaws.{outcomes_tell}
use Rattle.conn_laws.proofs.laws.outcomes_tell_deciders.Goals as goal

pub returns : goal.returns
returns c = outcomes_tell
