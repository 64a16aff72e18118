use Rattle.std.proofs.Common.{arith}
use Rattle.request_reader.proofs.LookLaws.{cut_read}
use Rattle.request_reader.proofs.reader.drop_read.Goals as goal

pub returns-then-count-rest-clause-same : goal.returns-then-count-rest-clause-same
returns-then-count-rest-clause-same c =
    cut_read c.args.buffer.now.items c.truncate.new.self.items c.args.begin c.args.used c.args.count c.truncate.ensures.items
    (omega (arith, c.if-count-rest.true, c.len.ensures, c.args.buffer.now.ok.0))
