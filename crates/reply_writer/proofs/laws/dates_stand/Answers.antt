use Rattle.reply_writer.proofs.DateStandLaws.{dates_stand}
use Rattle.reply_writer.proofs.laws.dates_stand.Goals as goal

pub returns : goal.returns
returns c = dates_stand
