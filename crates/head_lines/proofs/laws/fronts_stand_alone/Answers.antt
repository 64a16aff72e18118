use Rattle.head_lines.proofs.FrontLaws.{fronts_stand_alone}
use Rattle.head_lines.proofs.laws.fronts_stand_alone.Goals as goal

pub returns : goal.returns
returns c = fronts_stand_alone
