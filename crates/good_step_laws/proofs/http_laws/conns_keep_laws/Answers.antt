use Rattle.good_step_laws.proofs.Http.KindLaws.{conns_keep_laws}
use Rattle.good_step_laws.proofs.http_laws.conns_keep_laws.Goals as goal

pub returns : goal.returns
returns c = conns_keep_laws
