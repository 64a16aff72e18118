use Rattle.trace_laws.proofs.PrefixLaws.{stands}
use Rattle.trace_laws.proofs.laws.children_are_of_one.Goals as goal

pub returns : goal.returns
returns c = λ site T k f below. (stands site T f).once k below
