use Rattle.head_reader.proofs.RefusalLaws.{long_heads_are_refused}
use Rattle.head_reader.proofs.laws.long_heads_are_refused.Goals as goal

pub returns : goal.returns
returns c = long_heads_are_refused
