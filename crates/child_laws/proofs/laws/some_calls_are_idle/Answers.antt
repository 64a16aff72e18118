use Rattle.child_laws.proofs.SpentLaws.{is_idle}
use Rattle.child_laws.proofs.laws.some_calls_are_idle.Goals as goal

pub returns : goal.returns
returns c = is_idle
