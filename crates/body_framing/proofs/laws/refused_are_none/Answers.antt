use Rattle.body_framing.proofs.Refusals.{refused_are_none}
use Rattle.body_framing.proofs.laws.refused_are_none.Goals as goal

pub returns : goal.returns
returns c = refused_are_none
