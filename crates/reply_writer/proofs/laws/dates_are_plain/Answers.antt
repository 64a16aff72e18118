use Rattle.reply_writer.proofs.DatePlainLaws.{dates_are_plain}
use Rattle.reply_writer.proofs.laws.dates_are_plain.Goals as goal

pub returns : goal.returns
returns c = dates_are_plain
