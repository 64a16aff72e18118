use Rattle.line_messages.proofs.LawLemmas as laws
use Rattle.line_messages.proofs.laws.texts_are_themselves.Goals as goal

pub returns-clause-themselves : goal.returns-clause-themselves
returns-clause-themselves c = laws.texts_are_themselves

pub returns-clause-read_back : goal.returns-clause-read_back
returns-clause-read_back c = laws.inputs_read_back
