use Rattle.child_core.proofs.OutputLaws.{holds-behind}
use Rattle.child_core.proofs.output_laws.holds_behind.Goals as goal

pub returns : goal.returns
returns c = holds-behind
