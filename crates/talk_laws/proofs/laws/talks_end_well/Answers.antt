use Rattle.talk_laws.proofs.EndLaws.{talks_end_well as the_law}
use Rattle.talk_laws.proofs.laws.talks_end_well.Goals as goal

pub returns : goal.returns
returns c = the_law
