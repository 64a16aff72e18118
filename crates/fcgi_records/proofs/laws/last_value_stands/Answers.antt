use Rattle.fcgi_records.proofs.WrittenLaws.{last_value_stands}
use Rattle.fcgi_records.proofs.laws.last_value_stands.Goals as goal

pub returns : goal.returns
returns c = last_value_stands
