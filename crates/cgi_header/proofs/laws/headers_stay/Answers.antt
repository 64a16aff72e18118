use Rattle.cgi_header.proofs.StayLaws.{headers_stay}
use Rattle.cgi_header.proofs.laws.headers_stay.Goals as goal

pub returns : goal.returns
returns c = headers_stay
