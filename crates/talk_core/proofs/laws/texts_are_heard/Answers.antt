use Rattle.talk_core.proofs.GiveLaws.{texts_are_heard}
use Rattle.talk_core.proofs.laws.texts_are_heard.Goals as goal

pub returns : goal.returns
returns c = λ c k limits L act. texts_are_heard c k limits L act
