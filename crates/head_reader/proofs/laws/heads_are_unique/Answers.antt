use Rattle.head_reader.proofs.ReadLaws.{heads_are_unique}
use Rattle.head_reader.proofs.laws.heads_are_unique.Goals as goal

pub returns : goal.returns
returns c = heads_are_unique
