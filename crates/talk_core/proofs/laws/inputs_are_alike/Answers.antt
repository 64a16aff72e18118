use Rattle.talk_core.proofs.AlikeLaws.{inputs_are_alike}
use Rattle.talk_core.proofs.laws.inputs_are_alike.Goals as goal

pub returns : goal.returns
returns c = λ run offered items talks own other. inputs_are_alike run offered items talks own other
