use Rattle.good_step_laws.proofs.Orders.AskLaws.{steps_ask}
use Rattle.good_step_laws.proofs.order_laws.steps_ask.Goals as goal

pub returns : goal.returns
returns c = steps_ask
