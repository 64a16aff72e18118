use Rattle.child_core.proofs.OutputLaws.{holds-drained}
use Rattle.child_core.proofs.output_laws.drains_hold.Goals as goal

pub returns : goal.returns
returns c = holds-drained
