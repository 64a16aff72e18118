use Rattle.std.proofs.Common.{◌≤◌, length, Some, None, sym, ◌∙◌, arith}
use Rattle.head_lines.proofs.SearchLaws.{line_count_is}
use Rattle.head_reader.proofs.ReadLaws.{target_at_front, long_target, many_fields, at_end, memory_at_end, on_err_always}
use Rattle.head_reader.proofs.read.judge.Goals as goal

pub returns-then-line_count-gt-MOST_LINES-clause-exact : goal.returns-then-line_count-gt-MOST_LINES-clause-exact
returns-then-line_count-gt-MOST_LINES-clause-exact c = λ f front whole.
    let target = c.target_len.ensures ∙ target_at_front c.args.head.now f front in
    many_fields c.args.limits.now c.args.used f (omega (arith, target, c.if-target_len-limits.false))
    (omega (arith, c.line_count.ensures, line_count_is c.args.head.now f front whole, c.if-line_count-gt-MOST_LINES.true))

pub returns-in-Some-clause-exact : goal.returns-in-Some-clause-exact
returns-in-Some-clause-exact c = λ f front whole.
    let target = c.target_len.ensures ∙ target_at_front c.args.head.now f front in
    let few : length f.lines ≤ 101 =
    omega (arith, c.line_count.ensures, line_count_is c.args.head.now f front whole, c.if-line_count-gt-MOST_LINES.false) in
    at_end c.args.limits.now c.args.used f (Some c.in-Some.head) (omega (arith, target, c.if-target_len-limits.false)) few
    (sym c.in-Some.is ∙ c.in_ok-head.ensures.exact f front whole few)

pub returns-in-None-clause-exact : goal.returns-in-None-clause-exact
returns-in-None-clause-exact c = λ f front whole.
    let target = c.target_len.ensures ∙ target_at_front c.args.head.now f front in
    let few : length f.lines ≤ 101 =
    omega (arith, c.line_count.ensures, line_count_is c.args.head.now f front whole, c.if-line_count-gt-MOST_LINES.false) in
    at_end c.args.limits.now c.args.used f None (omega (arith, target, c.if-target_len-limits.false)) few
    (sym c.in-None.is ∙ c.in_ok-head.ensures.exact f front whole few)

pub returns-in_err-head-clause-memory : goal.returns-in_err-head-clause-memory
returns-in_err-head-clause-memory c = on_err_always c.from_residual.result λ f front whole.
    let target = c.target_len.ensures ∙ target_at_front c.args.head.now f front in
    memory_at_end c.args.limits.now c.args.used f (omega (arith, target, c.if-target_len-limits.false))
    (omega (arith, c.line_count.ensures, line_count_is c.args.head.now f front whole, c.if-line_count-gt-MOST_LINES.false))
    (c.in_err-head.ensures.memory f front whole)

pub returns-then-target_len-limits-clause-exact : goal.returns-then-target_len-limits-clause-exact
returns-then-target_len-limits-clause-exact c = λ f front whole.
    long_target c.args.limits.now c.args.used f
    (omega (arith, c.target_len.ensures ∙ target_at_front c.args.head.now f front, c.if-target_len-limits.true))
