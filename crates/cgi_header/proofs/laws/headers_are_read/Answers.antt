use Rattle.cgi_header.proofs.ReadLaws.{headers_are_read}
use Rattle.cgi_header.proofs.laws.headers_are_read.Goals as goal

pub returns : goal.returns
returns c = headers_are_read
