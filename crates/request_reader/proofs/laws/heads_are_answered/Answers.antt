use Rattle.request_reader.proofs.RequestLaws.{heads_are_answered}
use Rattle.request_reader.proofs.laws.heads_are_answered.Goals as goal

pub returns : goal.returns
returns c = heads_are_answered
