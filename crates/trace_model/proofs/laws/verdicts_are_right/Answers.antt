use Rattle.trace_model.proofs.VerdictLaws.{good_by_verdict}
use Rattle.trace_model.proofs.laws.verdicts_are_right.Goals as goal

pub returns : goal.returns
returns c = good_by_verdict
