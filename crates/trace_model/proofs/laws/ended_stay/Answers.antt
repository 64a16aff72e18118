use Rattle.trace_model.proofs.ExchangeLaws.{ended-stay}
use Rattle.trace_model.proofs.laws.ended_stay.Goals as goal

pub returns : goal.returns
returns c = ended-stay
