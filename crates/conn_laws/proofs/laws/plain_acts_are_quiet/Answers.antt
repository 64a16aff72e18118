use Rattle.conn_laws.proofs.QuietLaws.{act_quiet}
use Rattle.conn_laws.proofs.laws.plain_acts_are_quiet.Goals as goal

pub returns : goal.returns
returns c = act_quiet
