use Rattle.talk_laws.proofs.ActLaws.{asks_move, child_acts_move, shuts_move, talk_acts_move}
use Rattle.talk_laws.proofs.laws.acts_move_talks.Goals as goal

pub returns : goal.returns
returns c = record { talk = talk_acts_move; child = child_acts_move; asks = asks_move; shuts = shuts_move }
