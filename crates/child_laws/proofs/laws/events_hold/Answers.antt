use Rattle.child_laws.proofs.OutputLaws.{events_hold}
use Rattle.child_laws.proofs.laws.events_hold.Goals as goal

pub returns : goal.returns
returns c = events_hold
