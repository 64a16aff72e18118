use Rattle.reply_kinds.proofs.PlainLaws.{replies_are_fit}
use Rattle.reply_kinds.proofs.laws.replies_are_fit.Goals as goal

pub returns : goal.returns
returns c = replies_are_fit
