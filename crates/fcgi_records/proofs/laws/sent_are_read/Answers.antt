use Rattle.fcgi_records.proofs.RecordLaws.{sent_are_read}
use Rattle.fcgi_records.proofs.laws.sent_are_read.Goals as goal

pub returns : goal.returns
returns c = sent_are_read
