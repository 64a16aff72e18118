use Rattle.head_lines.proofs.FrontLaws.{fronts_are_lines}
use Rattle.head_lines.proofs.laws.fronts_are_lines.Goals as goal

pub returns : goal.returns
returns c = fronts_are_lines
