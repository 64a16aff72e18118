use Rattle.std.proofs.Common.{List, ℕ, take, drop, sym, subst}
use Rattle.std.proofs.Math.Seq.{take-add}
use Rattle.head_reader.specs.RequestHead.{IsSearchedHead}
use Rattle.part_rows.proofs.tests.requests.heads.is_right_by_bytes.Goals as goal

pub loop-count-preserved : goal.loop-count-preserved
loop-count-preserved c =
    let text = c.args.text.now in
    subst (λ (seen : List ℕ). IsSearchedHead c.least_limits-limits.result seen c.read_head_from.new.search)
    (sym (take-add c.loop-count.count 1 text))
    (c.in_ok-step.ensures.kept (take 1 (drop c.loop-count.count text)))
