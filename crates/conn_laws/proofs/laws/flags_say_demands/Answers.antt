use Rattle.conn_laws.proofs.FormLaws.{flags_say}
use Rattle.conn_laws.proofs.laws.flags_say_demands.Goals as goal

pub returns : goal.returns
returns c = flags_say
