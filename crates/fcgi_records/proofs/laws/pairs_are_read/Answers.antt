use Rattle.fcgi_records.proofs.WrittenLaws.{pairs_are_read}
use Rattle.fcgi_records.proofs.laws.pairs_are_read.Goals as goal

pub returns : goal.returns
returns c = pairs_are_read
