use Rattle.exchange_laws.proofs.AskLaws.{asks_are_staged}
use Rattle.exchange_laws.proofs.ReasonLaws.{reasons_are_staged}
use Rattle.exchange_laws.proofs.ShutLaws.{continues_are_given, shuts_demand_nothing}
use Rattle.exchange_laws.proofs.laws.stages_say_demands.Goals as goal

pub returns : goal.returns
returns c = record { asks = asks_are_staged; reasons = reasons_are_staged; shut = shuts_demand_nothing; continues = continues_are_given }
