use Rattle.reply_writer.proofs.WholeEndLaws.{fronts_are_no_reply}
use Rattle.reply_writer.proofs.whole_laws.fronts_are_no_reply.Goals as goal

pub returns : goal.returns
returns c = fronts_are_no_reply
