use Rattle.child_core.proofs.OutputLaws.{holds-noted}
use Rattle.child_core.proofs.output_laws.items_hold.Goals as goal

pub returns : goal.returns
returns c = holds-noted
