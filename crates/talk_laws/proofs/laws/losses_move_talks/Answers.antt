use Rattle.talk_laws.proofs.LostLaws.{events_keep_lost, losses_move, lost_acts_move, lost_shuts_move}
use Rattle.talk_laws.proofs.laws.losses_move_talks.Goals as goal

pub returns : goal.returns
returns c = record { lost = losses_move; acts = lost_acts_move; shuts = lost_shuts_move; events = events_keep_lost }
