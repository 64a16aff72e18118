use Rattle.reply_writer.proofs.ReadEndLaws.{old_versions_have_no_coding}
use Rattle.reply_writer.proofs.laws.old_versions_have_no_coding.Goals as goal

pub returns : goal.returns
returns c = old_versions_have_no_coding
