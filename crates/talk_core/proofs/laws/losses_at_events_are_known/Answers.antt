use Rattle.talk_core.proofs.WalkLaws.{losses_at_events}
use Rattle.talk_core.proofs.laws.losses_at_events_are_known.Goals as goal

pub returns : goal.returns
returns c = λ early c limits t v L ev s m. losses_at_events early c limits t v L ev s m
