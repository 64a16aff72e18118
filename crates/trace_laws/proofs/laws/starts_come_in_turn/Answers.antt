use Rattle.trace_laws.proofs.TurnLaws.{in_turn}
use Rattle.trace_laws.proofs.laws.starts_come_in_turn.Goals as goal

pub returns : goal.returns
returns c = in_turn
