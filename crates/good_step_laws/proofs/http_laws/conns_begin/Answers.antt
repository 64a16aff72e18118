use Rattle.good_step_laws.proofs.Http.KindLaws.{conns_begin}
use Rattle.good_step_laws.proofs.http_laws.conns_begin.Goals as goal

pub returns : goal.returns
returns c = conns_begin
