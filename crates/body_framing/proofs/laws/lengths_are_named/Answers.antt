use Rattle.body_framing.proofs.FramingLaws.{lengths_are_named}
use Rattle.body_framing.proofs.laws.lengths_are_named.Goals as goal

pub returns : goal.returns
returns c = lengths_are_named
