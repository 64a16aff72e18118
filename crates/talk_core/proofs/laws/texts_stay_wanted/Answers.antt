use Rattle.talk_core.proofs.WantLaws.{texts_stay_wanted}
use Rattle.talk_core.proofs.laws.texts_stay_wanted.Goals as goal

pub returns : goal.returns
returns c = λ may t v ev talks none quiet wants. texts_stay_wanted may t v ev talks none quiet wants
