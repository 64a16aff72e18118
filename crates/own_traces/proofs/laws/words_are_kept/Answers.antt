use Rattle.own_traces.proofs.SameLaws.{says}
use Rattle.own_traces.proofs.laws.words_are_kept.Goals as goal

pub returns : goal.returns
returns c = says
