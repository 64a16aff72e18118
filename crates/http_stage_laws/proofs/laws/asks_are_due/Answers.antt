use Rattle.http_stage_laws.proofs.AskLaws.{asks_due}
use Rattle.http_stage_laws.proofs.laws.asks_are_due.Goals as goal

pub returns : goal.returns
returns c = asks_due
