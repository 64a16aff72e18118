use Rattle.trace_laws.proofs.EndLaws.{all_settle}
use Rattle.trace_laws.proofs.laws.exits_settle_all.Goals as goal

pub returns : goal.returns
returns c = all_settle
