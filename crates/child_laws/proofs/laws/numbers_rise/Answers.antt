use Rattle.child_laws.proofs.KnowLaws.{numbers_rise}
use Rattle.child_laws.proofs.laws.numbers_rise.Goals as goal

pub returns : goal.returns
returns c = numbers_rise
