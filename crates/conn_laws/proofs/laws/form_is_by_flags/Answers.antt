use Rattle.conn_laws.proofs.FormLaws.{form_by_flags}
use Rattle.conn_laws.proofs.laws.form_is_by_flags.Goals as goal

pub returns : goal.returns
returns c = form_by_flags
