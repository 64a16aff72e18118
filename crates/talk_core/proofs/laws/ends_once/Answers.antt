use Rattle.talk_core.proofs.WantLaws.{ends_once}
use Rattle.talk_core.proofs.laws.ends_once.Goals as goal

pub returns : goal.returns
returns c = λ v ending. ends_once v ending
