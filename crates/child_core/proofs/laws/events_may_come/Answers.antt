use Rattle.child_core.proofs.AdmitLaws.{event-admits}
use Rattle.child_core.proofs.laws.events_may_come.Goals as goal

pub returns : goal.returns
returns c = event-admits
