use Rattle.conn_laws.proofs.FormLaws.{acts_in_time}
use Rattle.conn_laws.proofs.laws.acts_come_in_time.Goals as goal

pub returns : goal.returns
returns c = acts_in_time
