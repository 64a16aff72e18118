use Rattle.body_framing.proofs.BodyLaws.{bodies_are_read}
use Rattle.body_framing.proofs.laws.bodies_are_read.Goals as goal

pub returns : goal.returns
returns c = bodies_are_read
