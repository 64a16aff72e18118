use Rattle.host_core.proofs.GoodLaws.{stands_good}
use Rattle.host_core.proofs.laws.stands_are_good.Goals as goal

pub returns : goal.returns
returns g c = λ T s. stands_good g.met.C.Connection.laws c.args.core.now T s
