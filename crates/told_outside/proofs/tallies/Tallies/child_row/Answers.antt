-- The row is that of what the event names.
use Rattle.std.proofs.Common.{◌≡◌, Some, sym, ◌∙◌, ap, subst}
use Rattle.std.proofs.lemmas.Bool.{eqb-true, false≢true}
use Rattle.told_outside.specs.Rows.{row_at}
use Rattle.told_outside.proofs.tallies.Tallies.child_row.Goals as goal

pub returns-in-Some : goal.returns-in-Some
returns-in-Some c = λ T ties q row named is.
    let same = eqb-true q c.in-Some.k (sym (c.in-Some.ensures q) ∙ named) in
    ties.children.each q row (subst (λ m. row_at c.args.self.now.children.rows m ≡ Some row) (sym same) (sym c.row.ensures ∙ is))

pub returns-in-None : goal.returns-in-None
returns-in-None c = λ T ties q row named is. absurd (false≢true (sym (c.in-None.ensures q) ∙ named))
