use Rattle.child_core.proofs.OutputLaws.{holds-ended}
use Rattle.child_core.proofs.output_laws.ends_hold.Goals as goal

pub returns : goal.returns
returns c = holds-ended
