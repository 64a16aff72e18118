use Rattle.exchange_reply.proofs.StepLaws.{items_leave, texts_extend}
use Rattle.exchange_reply.proofs.laws.texts_extend.Goals as goal

pub returns : goal.returns
returns c = record { texts = texts_extend; items = items_leave }
