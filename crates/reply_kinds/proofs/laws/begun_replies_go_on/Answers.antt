use Rattle.reply_kinds.proofs.DerivedLaws.{begun_goes_on, headers_come_first}
use Rattle.reply_kinds.proofs.laws.begun_replies_go_on.Goals as goal

pub returns : goal.returns
returns c = record { begun = begun_goes_on; first = headers_come_first }
