use Rattle.child_core.proofs.BehindLaws.{Knows-behind}
use Rattle.child_core.proofs.tell_laws.knows_behind.Goals as goal

pub returns : goal.returns
returns c = λ early s v before L fresh unclosed going k. Knows-behind s v before fresh unclosed early L going k
