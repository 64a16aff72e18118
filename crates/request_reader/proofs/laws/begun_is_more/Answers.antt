use Rattle.request_reader.proofs.RequestLaws.{begun_is_more}
use Rattle.request_reader.proofs.laws.begun_is_more.Goals as goal

pub returns : goal.returns
returns c = begun_is_more
