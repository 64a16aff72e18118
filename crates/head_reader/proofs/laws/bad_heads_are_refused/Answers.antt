use Rattle.head_reader.proofs.RefusalLaws.{bad_heads_are_refused}
use Rattle.head_reader.proofs.laws.bad_heads_are_refused.Goals as goal

pub returns : goal.returns
returns c = bad_heads_are_refused
