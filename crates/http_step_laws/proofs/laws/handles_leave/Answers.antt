use Rattle.http_step_laws.proofs.HandleLaws.{handles_leave}
use Rattle.http_step_laws.proofs.laws.handles_leave.Goals as goal

pub returns : goal.returns
returns c = handles_leave
