use Rattle.head_reader.proofs.ReadLaws.{more_is_open}
use Rattle.head_reader.proofs.laws.more_is_open.Goals as goal

pub returns : goal.returns
returns c = more_is_open
