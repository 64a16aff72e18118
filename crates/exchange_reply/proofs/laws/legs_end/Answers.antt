use Rattle.exchange_reply.proofs.LegLaws.{faults_end, replies_are_left, replies_end}
use Rattle.exchange_reply.proofs.laws.legs_end.Goals as goal

pub returns : goal.returns
returns c = record { ended = replies_end; left = replies_are_left; faults = faults_end }
