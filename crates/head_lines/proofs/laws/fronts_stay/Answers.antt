use Rattle.head_lines.proofs.FrontLaws.{fronts_stay}
use Rattle.head_lines.proofs.laws.fronts_stay.Goals as goal

pub returns : goal.returns
returns c = fronts_stay
