-- The rules on a child, for each leg of the exchanges of a step. Where an exchange ended within the step, what its
-- child is owed was due by then; the child of one that ended before is settled, and no act may be given to it.
use Rattle.std.specs.Prelude.{ℕ}
use Rattle.std.specs.List.{AllByRecursion}
use Rattle.host_base.specs.declared.site.Site.{Site}
use Rattle.host_trace.specs.Trace.{Step, end_of}
use Rattle.trace_child.specs.ChildGood.{ChildGood}
use Rattle.trace_model.specs.Demands.{has_room}
use Rattle.trace_model.specs.Exchange.{Exchange}
use Rattle.trace_model.specs.Legs.{Leg, run_of}
use Rattle.trace_model.specs.Answer.{legs}
use Rattle.trace_model.specs.Steps.{heard_of, exchanges_in}

abbrev pub LegGood : Site → ℕ → Step → Exchange → Leg → Type 0
LegGood site c s e leg = ChildGood (run_of site c e leg) (has_room c (end_of s)) (heard_of s) s.acts e.items

abbrev pub LegsGood : Site → ℕ → Step → Exchange → Type 0
LegsGood site c s e = AllByRecursion (LegGood site c s e) (legs site c e)

abbrev pub ChildrenGood : Site → ℕ → Step → Type 0
ChildrenGood site c s = AllByRecursion (LegsGood site c s) (exchanges_in site c s)
