use Rattle.trace_model.proofs.FirstByteLaws.{spelled_as_before}
use Rattle.trace_model.proofs.laws.spellings_stay.Goals as goal

pub returns : goal.returns
returns c = spelled_as_before
