use Rattle.head_reader.proofs.RefusalLaws.{long_targets_are_refused}
use Rattle.head_reader.proofs.laws.long_targets_are_refused.Goals as goal

pub returns : goal.returns
returns c = long_targets_are_refused
