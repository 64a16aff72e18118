use Rattle.reply_writer.proofs.DateLaws.{dates_read_back}
use Rattle.reply_writer.proofs.laws.dates_read_back.Goals as goal

pub returns : goal.returns
returns c = dates_read_back
