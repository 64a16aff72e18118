use Rattle.talk_core.proofs.BeginLaws.{talks_begin}
use Rattle.talk_core.proofs.laws.talks_begin.Goals as goal

pub returns : goal.returns
returns c = λ c k limits d j hop launch L fresh untalked unshut going. talks_begin c k limits d j hop launch L fresh untalked unshut going
