use Rattle.scgi_conn.proofs.FlagLaws.{flags_follow}
use Rattle.scgi_conn.proofs.laws.flags_follow.Goals as goal

pub returns : goal.returns
returns c = flags_follow
