use Rattle.reply_writer.proofs.ReadBackLaws.{heads_read_back}
use Rattle.reply_writer.proofs.laws.heads_read_back.Goals as goal

pub returns : goal.returns
returns c = heads_read_back
