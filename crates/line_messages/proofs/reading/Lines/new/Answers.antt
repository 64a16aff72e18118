-- Nothing was read, and nothing stands behind an LF.
use Rattle.std.proofs.Common.{refl}
use Rattle.line_messages.proofs.ReadingLemmas.{stands_first}
use Rattle.line_messages.proofs.reading.Lines.new.Goals as goal

pub returns-clause-stands : goal.returns-clause-stands
returns-clause-stands c = stands_first _ refl c.new.ensures.items
