use Rattle.front_rules.proofs.ActLaws.{each_keeps}
use Rattle.front_rules.proofs.laws.each_keeps.Goals as goal

pub returns : goal.returns
returns c = each_keeps
