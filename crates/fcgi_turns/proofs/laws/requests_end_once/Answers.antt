use Rattle.fcgi_turns.proofs.EndLaws.{requests_end_once}
use Rattle.fcgi_turns.proofs.laws.requests_end_once.Goals as goal

pub returns : goal.returns
returns c = requests_end_once
