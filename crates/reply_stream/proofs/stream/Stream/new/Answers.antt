use Rattle.reply_stream.proofs.HoldLaws.{made}
use Rattle.reply_stream.proofs.stream.Stream.new.Goals as goal

pub returns : goal.returns
returns c = rw c.new.ensures (made c.args.asked c.new-2.result)
