use Rattle.exchange_reply.proofs.MemoryLaws.{answers_are_lacked, dues_are_lacked}
use Rattle.exchange_reply.proofs.laws.lacks_are_allowed.Goals as goal

pub returns : goal.returns
returns c = record { dues = dues_are_lacked; answers = answers_are_lacked }
