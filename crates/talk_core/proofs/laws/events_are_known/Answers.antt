use Rattle.talk_core.proofs.HearLaws.{events_are_known}
use Rattle.talk_core.proofs.laws.events_are_known.Goals as goal

pub returns : goal.returns
returns c = λ early c limits t v L ev s m. events_are_known early c limits t v L ev s m
