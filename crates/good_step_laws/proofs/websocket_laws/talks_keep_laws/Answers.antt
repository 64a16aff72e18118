use Rattle.good_step_laws.proofs.Talk.KindLaws.{talks_keep_laws}
use Rattle.good_step_laws.proofs.websocket_laws.talks_keep_laws.Goals as goal

pub returns : goal.returns
returns c = talks_keep_laws
