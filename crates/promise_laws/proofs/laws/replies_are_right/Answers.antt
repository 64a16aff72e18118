use Rattle.promise_laws.proofs.RightLaws.{replies_right}
use Rattle.promise_laws.proofs.laws.replies_are_right.Goals as goal

pub returns : goal.returns
returns c = replies_right
