use Rattle.serve_laws.proofs.EndProofs.{come_to_their_end}
use Rattle.serve_laws.proofs.laws.loops_come_to_their_end.Goals as goal

pub returns : goal.returns
returns c = come_to_their_end
