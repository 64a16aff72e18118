use Rattle.conn_laws.proofs.QuietLaws.{act_breaks_none}
use Rattle.conn_laws.proofs.laws.acts_break_nothing.Goals as goal

pub returns : goal.returns
returns c = act_breaks_none
