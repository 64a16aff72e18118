use Rattle.exchange_reply.proofs.NoSoonerLaws.{items_come_no_sooner, texts_come_no_sooner, unbegun_is_no_sooner}
use Rattle.exchange_reply.proofs.laws.texts_come_no_sooner.Goals as goal

pub returns : goal.returns
returns c = record { unbegun = unbegun_is_no_sooner; items = items_come_no_sooner; texts = texts_come_no_sooner }
