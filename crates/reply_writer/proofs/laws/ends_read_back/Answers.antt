use Rattle.reply_writer.proofs.ReadEndLaws.{ends_read_back}
use Rattle.reply_writer.proofs.laws.ends_read_back.Goals as goal

pub returns : goal.returns
returns c = ends_read_back
