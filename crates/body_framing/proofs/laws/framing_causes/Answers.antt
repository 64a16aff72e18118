use Rattle.body_framing.proofs.FramingLaws.{framing_causes}
use Rattle.body_framing.proofs.laws.framing_causes.Goals as goal

pub returns : goal.returns
returns c = framing_causes
