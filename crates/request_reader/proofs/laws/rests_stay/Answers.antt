use Rattle.request_reader.proofs.RequestLaws.{rests_stay}
use Rattle.request_reader.proofs.laws.rests_stay.Goals as goal

pub returns : goal.returns
returns c = rests_stay
