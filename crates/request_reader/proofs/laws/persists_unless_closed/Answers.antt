use Rattle.request_reader.proofs.RequestLaws.{persists_unless_closed}
use Rattle.request_reader.proofs.laws.persists_unless_closed.Goals as goal

pub returns : goal.returns
returns c = persists_unless_closed
