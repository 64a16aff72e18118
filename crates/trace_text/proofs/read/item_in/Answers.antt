use Rattle.trace_text.proofs.LineLaws.{taken, untaken}
use Rattle.trace_text.proofs.read.item_in.Goals as goal

pub returns-then-branch : goal.returns-then-branch
returns-then-branch c = taken c.args.line.now c.in_ok-item.item c.in_ok-is_line_of.field-0 c.in_ok-item.ensures c.in_ok-is_line_of.ensures c.if-branch.true

pub returns-else-branch : goal.returns-else-branch
returns-else-branch c = untaken c.args.line.now c.in_ok-item.item c.in_ok-is_line_of.field-0 c.in_ok-item.ensures c.in_ok-is_line_of.ensures c.if-branch.false
