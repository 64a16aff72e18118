use Rattle.conn_laws.proofs.HopLaws.{reaches_next}
use Rattle.conn_laws.proofs.laws.redirects_lead_on.Goals as goal

pub returns : goal.returns
returns c = reaches_next
