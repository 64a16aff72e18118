use Rattle.body_framing.proofs.FramingLaws.{two_framings_are_refused}
use Rattle.body_framing.proofs.laws.two_framings_are_refused.Goals as goal

pub returns : goal.returns
returns c = two_framings_are_refused
