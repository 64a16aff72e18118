use Rattle.scgi_conn.proofs.KeepLaws.{steps_keep}
use Rattle.scgi_conn.proofs.laws.steps_keep.Goals as goal

pub returns : goal.returns
returns c = steps_keep
