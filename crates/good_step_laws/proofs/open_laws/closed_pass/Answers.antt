use Rattle.good_step_laws.proofs.Opens.ClosedLaws.{closed_pass}
use Rattle.good_step_laws.proofs.open_laws.closed_pass.Goals as goal

pub returns : goal.returns
returns c = closed_pass
