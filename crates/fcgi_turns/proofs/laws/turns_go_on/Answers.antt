use Rattle.fcgi_turns.proofs.TurnLaws.{turns_go_on}
use Rattle.fcgi_turns.proofs.laws.turns_go_on.Goals as goal

pub returns : goal.returns
returns c = turns_go_on
