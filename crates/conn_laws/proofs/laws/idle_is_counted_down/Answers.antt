use Rattle.conn_laws.proofs.IdleLaws.{counted_down}
use Rattle.conn_laws.proofs.laws.idle_is_counted_down.Goals as goal

pub returns : goal.returns
returns c = counted_down
