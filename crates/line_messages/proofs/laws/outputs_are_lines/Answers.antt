use Rattle.line_messages.proofs.PartLemmas as parts
use Rattle.line_messages.proofs.LawLemmas as laws
use Rattle.line_messages.proofs.laws.outputs_are_lines.Goals as goal

pub returns-clause-lines : goal.returns-clause-lines
returns-clause-lines c = parts.lines_of

pub returns-clause-read : goal.returns-clause-read
returns-clause-read c = laws.lines_are_read
