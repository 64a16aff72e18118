use Rattle.body_framing.proofs.BodyLaws.{unended_go_on}
use Rattle.body_framing.proofs.laws.unended_go_on.Goals as goal

pub returns : goal.returns
returns c = unended_go_on
