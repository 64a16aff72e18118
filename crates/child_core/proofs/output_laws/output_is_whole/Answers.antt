use Rattle.child_core.proofs.OutputLaws.{holds-whole}
use Rattle.child_core.proofs.output_laws.output_is_whole.Goals as goal

pub returns : goal.returns
returns c = holds-whole
