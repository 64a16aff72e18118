use Rattle.fcgi_turns.proofs.TurnLaws.{records_are_due}
use Rattle.fcgi_turns.proofs.laws.records_are_due.Goals as goal

pub returns : goal.returns
returns c = records_are_due
