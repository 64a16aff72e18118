-- The row is that of what the event names.
use Rattle.std.proofs.Common.{Some, sym, ◌∙◌, ap, subst}
use Rattle.std.proofs.lemmas.Bool.{eqb-true, false≢true}
use Rattle.trace_tallies.specs.ChildTallies.{child_tally}
use Rattle.memory_world.proofs.counted.Counted.child_row.Goals as goal

pub returns-in-Some : goal.returns-in-Some
returns-in-Some c = λ q named.
    ap Some (c.child.ensures ∙ ap (child_tally c.args.self.now.items.items) (sym (eqb-true q c.in-Some.k (sym (c.in-Some.ensures q) ∙ named))))

pub returns-in-None : goal.returns-in-None
returns-in-None c = λ q named. absurd (false≢true (sym (c.in-None.ensures q) ∙ named))
