use Rattle.child_laws.proofs.ActLaws.{others_known}
use Rattle.child_laws.proofs.laws.other_acts_are_known.Goals as goal

pub returns : goal.returns
returns c = others_known
