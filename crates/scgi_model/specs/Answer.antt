-- The answer of a connection, which its gateway reads as the output of a script (RFC 3875 6).
use Rattle.std.specs.Prelude.{ℕ, List, [], ◌∷◌, Option, Some, None, Result, Ok, Err}
use Rattle.host_base.specs.declared.cause.Cause.{Cause}
use Rattle.host_base.specs.declared.launch.Launch.{Launch}
use Rattle.host_base.specs.declared.site.Site.{Site}
use Rattle.host_trace.specs.declared.items.Item.{Item}
use Rattle.host_trace.specs.Projections.{children, child_out}
use Rattle.trace_child.specs.Decided.{outcome_of}
use Rattle.trace_model.specs.Breaks.{break_cause}
use Rattle.front_answers.specs.Answer.{Answer, undecided, fault, by_outcome}
use Rattle.scgi_model.specs.Request.{reading, launch_of, run_of}
use Rattle.scgi_model.specs.Breaks.{broken}

-- by the children that were started for it, of which there is one at most
abbrev pub by_children : Site → ℕ → List Item → List ℕ → Answer
by_children site c L [] = undecided
by_children site c L (k ∷ others) = by_outcome (child_out L k) (outcome_of (run_of site c L k) L)

abbrev pub by_launch : Site → ℕ → List Item → Option (Result Launch Cause) → Answer
by_launch site c L None = undecided
by_launch site c L (Some (Err cause)) = fault cause
by_launch site c L (Some (Ok launch)) = by_children site c L (children L c)

abbrev pub by_break : Site → ℕ → List Item → Option (List Item) → Answer
by_break site c L (Some front) = fault (break_cause front)
by_break site c L None = by_launch site c L (launch_of site (reading site c L))

-- The first that applies: the item that broke the request, the cause to refuse it, what decided its child's run.
abbrev pub answer : Site → ℕ → List Item → Answer
answer site c L = by_break site c L (broken site c L)
