use Rattle.front_rules.proofs.ChildLaws.{children_are_told}
use Rattle.front_rules.proofs.laws.children_are_told.Goals as goal

pub returns : goal.returns
returns c = children_are_told
