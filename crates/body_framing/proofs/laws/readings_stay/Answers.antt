use Rattle.body_framing.proofs.BodyLaws.{readings_stay}
use Rattle.body_framing.proofs.laws.readings_stay.Goals as goal

pub returns : goal.returns
returns c = readings_stay
