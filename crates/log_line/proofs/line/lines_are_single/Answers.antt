use Rattle.log_line.proofs.LineLaws.{lines_are_single}
use Rattle.log_line.proofs.line.lines_are_single.Goals as goal

pub returns : goal.returns
returns c = lines_are_single
