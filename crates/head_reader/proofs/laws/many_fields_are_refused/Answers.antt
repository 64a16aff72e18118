use Rattle.head_reader.proofs.RefusalLaws.{many_fields_are_refused}
use Rattle.head_reader.proofs.laws.many_fields_are_refused.Goals as goal

pub returns : goal.returns
returns c = many_fields_are_refused
