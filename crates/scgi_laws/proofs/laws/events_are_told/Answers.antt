use Rattle.scgi_laws.proofs.RunLaws.{events_are_told}
use Rattle.scgi_laws.proofs.laws.events_are_told.Goals as goal

pub returns : goal.returns
returns c = events_are_told
