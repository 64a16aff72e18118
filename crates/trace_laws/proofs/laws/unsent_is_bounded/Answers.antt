use Rattle.trace_laws.proofs.UnsentLaws.{unsent_bounded}
use Rattle.trace_laws.proofs.laws.unsent_is_bounded.Goals as goal

pub returns : goal.returns
returns c = unsent_bounded
