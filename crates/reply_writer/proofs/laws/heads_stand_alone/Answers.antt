use Rattle.reply_writer.proofs.ReadEndLaws.{heads_stand_alone}
use Rattle.reply_writer.proofs.laws.heads_stand_alone.Goals as goal

pub returns : goal.returns
returns c = heads_stand_alone
