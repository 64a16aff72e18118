use Rattle.conn_laws.proofs.FormLaws.{acts_come}
use Rattle.conn_laws.proofs.laws.acts_come_in_form.Goals as goal

pub returns : goal.returns
returns c = acts_come
