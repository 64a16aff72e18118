use Rattle.fcgi_turns.proofs.PieceLaws.{pieces_join}
use Rattle.fcgi_turns.proofs.laws.pieces_join.Goals as goal

pub returns : goal.returns
returns c = pieces_join
