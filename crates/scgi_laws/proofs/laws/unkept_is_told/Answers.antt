use Rattle.scgi_laws.proofs.RunLaws.{unkept_is_told}
use Rattle.scgi_laws.proofs.laws.unkept_is_told.Goals as goal

pub returns : goal.returns
returns c = unkept_is_told
