use Rattle.reply_kinds.proofs.DerivedLaws.{others_stay}
use Rattle.reply_kinds.proofs.laws.others_stay.Goals as goal

pub returns : goal.returns
returns c = others_stay
