use Rattle.talk_laws.proofs.TalkLaws.{talks_say_demands as the_law}
use Rattle.talk_laws.proofs.laws.talks_say_demands.Goals as goal

pub returns : goal.returns
returns c = the_law
