use Rattle.trace_model.proofs.EndLaws.{stands_at_the_end}
use Rattle.trace_model.proofs.laws.what_goes_on_may_stand.Goals as goal

pub returns : goal.returns
returns c = stands_at_the_end
