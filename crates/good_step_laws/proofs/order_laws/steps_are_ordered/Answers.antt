use Rattle.good_step_laws.proofs.Orders.OrderLaws.{steps_ordered}
use Rattle.good_step_laws.proofs.order_laws.steps_are_ordered.Goals as goal

pub returns : goal.returns
returns c = steps_ordered
