use Rattle.fcgi_records.proofs.SentLaws.{read_were_sent}
use Rattle.fcgi_records.proofs.laws.read_were_sent.Goals as goal

pub returns : goal.returns
returns c = read_were_sent
