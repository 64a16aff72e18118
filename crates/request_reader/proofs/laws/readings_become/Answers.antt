use Rattle.request_reader.proofs.Becoming.{readings_become}
use Rattle.request_reader.proofs.laws.readings_become.Goals as goal

pub returns : goal.returns
returns c = readings_become
