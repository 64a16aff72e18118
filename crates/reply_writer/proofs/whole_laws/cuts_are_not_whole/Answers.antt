use Rattle.reply_writer.proofs.WholeEndLaws.{cuts_are_not_whole}
use Rattle.reply_writer.proofs.whole_laws.cuts_are_not_whole.Goals as goal

pub returns : goal.returns
returns c = cuts_are_not_whole
