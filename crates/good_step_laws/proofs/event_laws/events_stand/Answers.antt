use Rattle.good_step_laws.proofs.Events.EventLaws.{events_stand}
use Rattle.good_step_laws.proofs.event_laws.events_stand.Goals as goal

pub returns : goal.returns
returns c = events_stand
