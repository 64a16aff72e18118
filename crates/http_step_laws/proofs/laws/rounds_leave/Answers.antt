use Rattle.http_step_laws.proofs.RoundLaws.{rounds_on_leave}
use Rattle.http_step_laws.proofs.laws.rounds_leave.Goals as goal

pub returns : goal.returns
returns c = rounds_on_leave
