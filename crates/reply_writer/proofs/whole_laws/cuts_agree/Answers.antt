use Rattle.reply_writer.proofs.WholeLaws.{cuts_agree}
use Rattle.reply_writer.proofs.whole_laws.cuts_agree.Goals as goal

pub returns : goal.returns
returns c = cuts_agree
