use Rattle.good_step_laws.proofs.Talk.KindLaws.{talks_give}
use Rattle.good_step_laws.proofs.websocket_laws.talks_give.Goals as goal

pub returns : goal.returns
returns c = talks_give
