-- What is counted beside a trace is what the trace says.
use Rattle.std.specs.Prelude.{◌≡◌, List}
use Rattle.host_trace.specs.declared.items.Item.{Item}
use Rattle.host_trace.specs.Projections.{accepted_count, stopped}
use Rattle.memory_world.specs.declared.tallies.Tallies.{Tallies}
use Rattle.memory_world.specs.ClientTallies.{ClientsTie}
use Rattle.trace_tallies.specs.ChildTallies.{waits, runs}
use Rattle.memory_world.specs.ChildTallies.{ChildrenTie, Sets}

pub record Ties (t : Tallies) (T : List Item) : Type 0 where
  pub clients : ClientsTie t.clients T
  pub children : ChildrenTie t.children.rows T
  pub waiting : Sets waits t.children.rows t.children.waiting
  pub running : Sets runs t.children.rows t.children.running
  pub accepted : t.accepted ≡ accepted_count T
  pub stopped : t.stopped ≡ stopped T
