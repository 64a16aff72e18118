use Rattle.reply_writer.proofs.WholeLaws.{spellings_agree}
use Rattle.reply_writer.proofs.whole_laws.spellings_agree.Goals as goal

pub returns : goal.returns
returns c = spellings_agree
