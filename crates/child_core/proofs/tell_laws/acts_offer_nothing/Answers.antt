use Rattle.child_core.proofs.TellLaws.{still-offers}
use Rattle.child_core.proofs.tell_laws.acts_offer_nothing.Goals as goal

pub returns : goal.returns
returns c = still-offers
