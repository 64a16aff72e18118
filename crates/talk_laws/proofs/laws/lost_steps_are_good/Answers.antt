use Rattle.talk_laws.proofs.LaterLaws.{later_steps_are_good}
use Rattle.talk_laws.proofs.LossLaws.{loss_steps_are_good}
use Rattle.talk_laws.proofs.laws.lost_steps_are_good.Goals as goal

pub returns : goal.returns
returns c = record { loss = loss_steps_are_good; later = later_steps_are_good }
