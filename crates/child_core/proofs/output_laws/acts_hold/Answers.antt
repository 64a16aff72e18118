use Rattle.child_core.proofs.OutputLaws.{holds-walked}
use Rattle.child_core.proofs.output_laws.acts_hold.Goals as goal

pub returns : goal.returns
returns c = holds-walked
