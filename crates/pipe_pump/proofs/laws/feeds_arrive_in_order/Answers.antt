use Rattle.pipe_pump.proofs.Gone.{feeds_arrive_in_order}
use Rattle.pipe_pump.proofs.laws.feeds_arrive_in_order.Goals as goal

pub returns : goal.returns
returns c = feeds_arrive_in_order
