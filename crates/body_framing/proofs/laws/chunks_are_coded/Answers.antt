use Rattle.body_framing.proofs.FramingLaws.{chunks_are_coded}
use Rattle.body_framing.proofs.laws.chunks_are_coded.Goals as goal

pub returns : goal.returns
returns c = chunks_are_coded
