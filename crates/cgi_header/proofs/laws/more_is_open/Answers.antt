use Rattle.cgi_header.proofs.StayLaws.{more_is_open}
use Rattle.cgi_header.proofs.laws.more_is_open.Goals as goal

pub returns : goal.returns
returns c = more_is_open
