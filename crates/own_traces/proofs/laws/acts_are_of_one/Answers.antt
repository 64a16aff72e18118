use Rattle.own_traces.proofs.BlockLaws.{moved}
use Rattle.own_traces.proofs.laws.acts_are_of_one.Goals as goal

pub returns : goal.returns
returns c = λ T c acts b known are. moved acts T c b known are
