use Rattle.trace_model.proofs.LiftLaws.{GoodFor-other}
use Rattle.trace_model.proofs.laws.parts_are_left.Goals as goal

pub returns : goal.returns
returns c = GoodFor-other
