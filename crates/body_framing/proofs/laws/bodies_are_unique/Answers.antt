use Rattle.body_framing.proofs.BodyLaws.{bodies_are_unique}
use Rattle.body_framing.proofs.laws.bodies_are_unique.Goals as goal

pub returns : goal.returns
returns c = bodies_are_unique
