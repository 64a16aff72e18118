use Rattle.conn_laws.proofs.QuietLaws.{walk-quiet}
use Rattle.conn_laws.proofs.laws.quiet_items_change_nothing.Goals as goal

pub returns : goal.returns
returns c = walk-quiet
