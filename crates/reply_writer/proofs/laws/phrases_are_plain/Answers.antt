use Rattle.reply_writer.proofs.FaultLaws.{phrases_are_plain}
use Rattle.reply_writer.proofs.laws.phrases_are_plain.Goals as goal

pub returns : goal.returns
returns c = phrases_are_plain
