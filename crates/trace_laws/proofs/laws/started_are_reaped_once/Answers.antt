use Rattle.trace_laws.proofs.ReapLaws.{reaped_once}
use Rattle.trace_laws.proofs.laws.started_are_reaped_once.Goals as goal

pub returns : goal.returns
returns c = reaped_once
