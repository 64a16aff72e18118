use Rattle.trace_model.proofs.LiftLaws.{GoodFor-step}
use Rattle.trace_model.proofs.laws.parts_go_on.Goals as goal

pub returns : goal.returns
returns c = GoodFor-step
