use Rattle.request_reader.proofs.RequestLaws.{bare_is_head}
use Rattle.request_reader.proofs.laws.bare_is_head.Goals as goal

pub returns : goal.returns
returns c = bare_is_head
