use Rattle.trace_laws.proofs.PrefixLaws.{stands}
use Rattle.trace_laws.proofs.laws.good_traces_are_between.Goals as goal

pub returns : goal.returns
returns c = λ site T f. (stands site T f).between
