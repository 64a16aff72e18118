use Rattle.child_laws.proofs.KnowLaws.{exchanges_follow}
use Rattle.child_laws.proofs.laws.exchanges_follow.Goals as goal

pub returns : goal.returns
returns c = exchanges_follow
