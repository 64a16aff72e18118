use Rattle.request_reader.proofs.RequestLaws.{wholes_are_requests}
use Rattle.request_reader.proofs.laws.wholes_are_requests.Goals as goal

pub returns : goal.returns
returns c = wholes_are_requests
