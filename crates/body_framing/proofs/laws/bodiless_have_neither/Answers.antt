use Rattle.body_framing.proofs.FramingLaws.{bodiless_have_neither}
use Rattle.body_framing.proofs.laws.bodiless_have_neither.Goals as goal

pub returns : goal.returns
returns c = bodiless_have_neither
