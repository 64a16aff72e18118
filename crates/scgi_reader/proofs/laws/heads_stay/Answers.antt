use Rattle.scgi_reader.proofs.StayLaws.{heads_stay}
use Rattle.scgi_reader.proofs.laws.heads_stay.Goals as goal

pub returns : goal.returns
returns c = heads_stay
