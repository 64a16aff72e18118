use Rattle.promise_laws.proofs.OutputLaws.{whole_outputs}
use Rattle.promise_laws.proofs.laws.outputs_are_whole.Goals as goal

pub returns : goal.returns
returns c = whole_outputs
