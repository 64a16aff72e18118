use Rattle.own_traces.proofs.FitLaws.{names_known}
use Rattle.own_traces.proofs.laws.numbers_are_known.Goals as goal

pub returns : goal.returns
returns c = names_known
