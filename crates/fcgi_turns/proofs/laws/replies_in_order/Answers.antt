use Rattle.fcgi_turns.proofs.ReplyLaws.{replies_in_order}
use Rattle.fcgi_turns.proofs.laws.replies_in_order.Goals as goal

pub returns : goal.returns
returns c = replies_in_order
