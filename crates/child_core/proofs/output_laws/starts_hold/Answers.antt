use Rattle.child_core.proofs.OutputLaws.{holds-start}
use Rattle.child_core.proofs.output_laws.starts_hold.Goals as goal

pub returns : goal.returns
returns c = holds-start
