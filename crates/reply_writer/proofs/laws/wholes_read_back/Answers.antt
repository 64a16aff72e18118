use Rattle.reply_writer.proofs.ReadBackLaws.{wholes_read_back}
use Rattle.reply_writer.proofs.laws.wholes_read_back.Goals as goal

pub returns : goal.returns
returns c = wholes_read_back
