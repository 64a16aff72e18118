-- Nothing has ended after as many turns as were counted.
use Rattle.std.proofs.Common.{◌≡◌, List, Some}
use Rattle.host_trace.specs.declared.items.Item.{Item}
use Rattle.explain.specs.Inputs.{KnowsSome}
use Rattle.explain.specs.Steps.{Stands}
use Rattle.explain.proofs.explain.explain_one.Given as goal

abbrev pub invariant-loop : goal.invariant-loop
invariant-loop g l = record {
  knows : KnowsSome l.first l.site.limits;
  stands : (T : List Item) → g.O.Outside.trace l.out ≡ Some T → Stands l.site l.first l.counter T;
}
