use Rattle.trace_model.proofs.OwnerLaws.{are_of-in_turn}
use Rattle.trace_model.proofs.laws.own_acts_keep_owners.Goals as goal

pub returns : goal.returns
returns c = λ T d low acts b known are. are_of-in_turn acts T d low b known are
