use Rattle.front_rules.proofs.ActLaws.{orders_rise}
use Rattle.front_rules.proofs.laws.orders_rise.Goals as goal

pub returns : goal.returns
returns c = orders_rise
