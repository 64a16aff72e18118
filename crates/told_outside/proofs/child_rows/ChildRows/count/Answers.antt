-- The rows are few.
use Rattle.std.proofs.Common.{◌≤◌, sym, subst}
use Rattle.told_outside.specs.Counts.{unsettled_count}
use Rattle.told_outside.proofs.CountLaws.{children_few}
use Rattle.told_outside.proofs.child_rows.ChildRows.count.Goals as goal

pub returns : goal.returns
returns c = λ T tie. subst (λ n. n ≤ unsettled_count T) (sym c.len.ensures.len) (children_few c.args.self.now T tie c.len.ensures.unique)
