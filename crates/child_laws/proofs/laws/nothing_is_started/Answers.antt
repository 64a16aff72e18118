use Rattle.child_laws.proofs.KnowLaws.{none_started}
use Rattle.child_laws.proofs.laws.nothing_is_started.Goals as goal

pub returns : goal.returns
returns c = none_started
