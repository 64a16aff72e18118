use Rattle.exchange_laws.proofs.PlaceLaws.{starts_are_right}
use Rattle.exchange_laws.proofs.TurnLaws.{writes_come_in_turn}
use Rattle.exchange_laws.proofs.laws.acts_are_right.Goals as goal

pub returns : goal.returns
returns c = record { starts = starts_are_right; turn = writes_come_in_turn }
