use Rattle.http_step_laws.proofs.LetOnLaws.{lets_on_leave}
use Rattle.http_step_laws.proofs.laws.lets_on_leave.Goals as goal

pub returns : goal.returns
returns c = λ L ev acts turn e old new n moves s two read free p form. lets_on_leave L ev acts turn e old n s two read free moves new p form
