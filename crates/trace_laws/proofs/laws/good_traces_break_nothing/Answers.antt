use Rattle.trace_laws.proofs.VerdictLaws.{good_none}
use Rattle.trace_laws.proofs.laws.good_traces_break_nothing.Goals as goal

pub returns : goal.returns
returns c = good_none
