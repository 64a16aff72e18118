-- What is counted beside a trace is what the trace says.
use Rattle.std.specs.Prelude.{◌≡◌, List}
use Rattle.host_trace.specs.declared.items.Item.{Item}
use Rattle.host_trace.specs.Projections.{stopped}
use Rattle.told_outside.specs.declared.tallies.Tallies.{Tallies}
use Rattle.told_outside.specs.ClientRows.{ClientsTie}
use Rattle.told_outside.specs.ChildRows.{ChildrenTie}

pub record Ties (t : Tallies) (T : List Item) : Type 0 where
  pub clients : ClientsTie t.clients T
  pub children : ChildrenTie t.children T
  pub stops : t.is_stopped ≡ stopped T
