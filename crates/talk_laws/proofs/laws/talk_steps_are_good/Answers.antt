use Rattle.talk_laws.proofs.GoodLaws.{talk_steps_are_good as the_law}
use Rattle.talk_laws.proofs.laws.talk_steps_are_good.Goals as goal

pub returns : goal.returns
returns c = the_law
