use Rattle.conn_laws.proofs.IdleLaws.{idle_end}
use Rattle.conn_laws.proofs.laws.idle_end_is_the_last.Goals as goal

pub returns : goal.returns
returns c = idle_end
