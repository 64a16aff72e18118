use Rattle.trace_model.proofs.OwnerLaws.{rises-in_turn}
use Rattle.trace_model.proofs.laws.rising_acts_keep_owners.Goals as goal

pub returns : goal.returns
returns c = λ T low high acts b known r. rises-in_turn acts T low high b known r
