use Rattle.std.proofs.Common.{List, ℕ, take, drop, sym, subst}
use Rattle.std.proofs.Math.Seq.{take-add}
use Rattle.head_lines.specs.Lines.{IsSearched}
use Rattle.part_rows.proofs.tests.base.lines.is_found_by_bytes.Goals as goal

pub loop-count-preserved : goal.loop-count-preserved
loop-count-preserved c =
    let text = c.args.text.now in
    let search = c.front_end.new.self in
    subst (λ (seen : List ℕ). IsSearched seen search.start search.seen) (sym (take-add c.loop-count.count-counter 1 text))
    (c.front_end.ensures.kept (take 1 (drop c.loop-count.count-counter text)))
