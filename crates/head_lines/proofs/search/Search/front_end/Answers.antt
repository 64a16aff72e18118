use Rattle.std.proofs.Common.{sym, ap, ◌∙◌, length}
use Rattle.std.proofs.lemmas.List.{nil_from_length}
use Rattle.std.proofs.lemmas.Bool.{eqb-true, eqb-false}
use Rattle.head_lines.proofs.SearchLaws.{searched_line, searched_byte, searched_end, searched_none}
use Rattle.head_lines.proofs.search.Search.front_end.Goals as goal
use Rattle.head_lines.proofs.search.Search.front_end.Goals.{then-text-i-eq10+else-is_empty, else-text-i-eq10}

pub returns-then-is_empty-clause-value : goal.returns-then-is_empty-clause-value
returns-then-is_empty-clause-value c =
    sym (searched_end c.args.text.now c.loop-i.start c.loop-i.i c.loop-i.invariant c.loop-i-test.true c.if-text-i-eq10.true
    (sym c.strip_cr.ensures ∙ nil_from_length _ (eqb-true _ _ (sym c.is_empty.ensures ∙ c.if-is_empty.true))))

pub loop-i-preserved : goal.loop-i-preserved
loop-i-preserved c =
    elim c.if-text-i-eq10.branch [
      | then-text-i-eq10+else-is_empty w ↦
          searched_line c.args.text.now c.loop-i.start c.loop-i.i c.if-text-i-eq10.start c.loop-i.invariant c.loop-i-test.true
          w.if-text-i-eq10.true
          (λ e. eqb-false _ _ (sym w.is_empty.ensures ∙ w.if-is_empty.false) (ap length (w.strip_cr.ensures ∙ e))) w.start-is
      | else-text-i-eq10 w ↦
          searched_byte c.args.text.now c.loop-i.start c.loop-i.i c.if-text-i-eq10.start c.loop-i.invariant c.loop-i-test.true
          w.if-text-i-eq10.false w.start-is
    ]

pub returns-clause-value : goal.returns-clause-value
returns-clause-value c =
    sym (searched_none c.args.text.now c.loop-i.start c.loop-i.i c.loop-i.invariant c.loop-i-test.false)
