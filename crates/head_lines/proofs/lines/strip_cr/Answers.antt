use Rattle.std.proofs.Common.{◌-◌, length, sym, arith}
use Rattle.head_lines.proofs.SearchLaws.{without_cr_yes, without_cr_no, without_cr_nil}
use Rattle.head_lines.proofs.lines.strip_cr.Goals as goal
use Rattle.head_lines.proofs.lines.strip_cr.Goals.{else-count-gt0-via-then-count-gt0+else-part-count-eq13, else-count-gt0-via-else-count-gt0}

pub returns-then-part-count-eq13 : goal.returns-then-part-count-eq13
returns-then-part-count-eq13 c =
    sym (without_cr_yes c.args.part.now (length c.args.part.now - 1) (omega (arith, c.if-count-gt0.true)) c.if-part-count-eq13.true)

pub returns-else-count-gt0 : goal.returns-else-count-gt0
returns-else-count-gt0 c =
    elim c.else-count-gt0.branch [
      | else-count-gt0-via-then-count-gt0+else-part-count-eq13 w ↦
          sym (without_cr_no c.args.part.now (length c.args.part.now - 1) (omega (arith, w.if-count-gt0.true)) w.if-part-count-eq13.false)
      | else-count-gt0-via-else-count-gt0 w ↦ sym (without_cr_nil c.args.part.now (omega (arith, w.if-count-gt0.false)))
    ]
