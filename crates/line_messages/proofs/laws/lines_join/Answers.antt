use Rattle.line_messages.proofs.LawLemmas as laws
use Rattle.line_messages.proofs.laws.lines_join.Goals as goal

pub returns-clause-joined : goal.returns-clause-joined
returns-clause-joined c = laws.lines_join

pub returns-clause-stay : goal.returns-clause-stay
returns-clause-stay c = laws.lines_stay
