use Rattle.promise_laws.proofs.TalkLaws.{talks_programmed}
use Rattle.promise_laws.proofs.laws.talks_have_programs.Goals as goal

pub returns : goal.returns
returns c = talks_programmed
