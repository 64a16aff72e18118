use Rattle.cgi_header.proofs.GrammarLaws.{wholes_are_headers}
use Rattle.cgi_header.proofs.laws.wholes_are_headers.Goals as goal

pub returns : goal.returns
returns c = wholes_are_headers
