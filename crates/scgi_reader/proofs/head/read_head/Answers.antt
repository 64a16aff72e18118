use Rattle.scgi_reader.proofs.ReadingLaws.{head_within_ok}
use Rattle.scgi_reader.proofs.head.read_head.Goals as goal

pub returns-clause-within : goal.returns-clause-within
returns-clause-within c = head_within_ok c.args.limits.now c.args.bytes.now _ c.by_size.ensures
