use Rattle.scgi_laws.proofs.DueLaws.{bytes_are_read}
use Rattle.scgi_laws.proofs.laws.bytes_are_read.Goals as goal

pub returns : goal.returns
returns c = bytes_are_read
