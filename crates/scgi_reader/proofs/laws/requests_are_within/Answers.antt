use Rattle.scgi_reader.proofs.StayLaws.{requests_are_within}
use Rattle.scgi_reader.proofs.laws.requests_are_within.Goals as goal

pub returns : goal.returns
returns c = requests_are_within
