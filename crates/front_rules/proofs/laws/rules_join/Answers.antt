use Rattle.front_rules.proofs.ActLaws.{rules_join}
use Rattle.front_rules.proofs.laws.rules_join.Goals as goal

pub returns : goal.returns
returns c = rules_join
