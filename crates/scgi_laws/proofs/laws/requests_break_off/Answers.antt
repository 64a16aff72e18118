use Rattle.scgi_laws.proofs.DueLaws.{requests_break_off}
use Rattle.scgi_laws.proofs.laws.requests_break_off.Goals as goal

pub returns : goal.returns
returns c = requests_break_off
