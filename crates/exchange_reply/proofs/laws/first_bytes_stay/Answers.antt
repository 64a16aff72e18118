use Rattle.exchange_reply.proofs.FirstByteLaws.{unbegun_is_now, writes_are_of_answers, writes_begin}
use Rattle.exchange_reply.proofs.laws.first_bytes_stay.Goals as goal

pub returns : goal.returns
returns c = record { unbegun = unbegun_is_now; first = writes_begin; written = writes_are_of_answers }
