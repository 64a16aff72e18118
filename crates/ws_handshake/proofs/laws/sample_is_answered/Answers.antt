use Rattle.ws_handshake.proofs.SampleLaws.{sample}
use Rattle.ws_handshake.proofs.laws.sample_is_answered.Goals as goal

pub returns : goal.returns
returns c = sample
