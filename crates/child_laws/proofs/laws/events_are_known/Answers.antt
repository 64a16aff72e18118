use Rattle.child_laws.proofs.EventLaws.{events_known}
use Rattle.child_laws.proofs.laws.events_are_known.Goals as goal

pub returns : goal.returns
returns c = events_known
