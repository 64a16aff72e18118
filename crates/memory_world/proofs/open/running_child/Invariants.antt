-- The least of the items so far.
use Rattle.std.proofs.Common.{◌≡◌, take}
use Rattle.std.specs.Prelude.{filter, not}
use Rattle.std.specs.List.{flat_map}
use Rattle.host_trace.specs.Projections.{exited}
use Rattle.memory_world.specs.NextEvent.{least, started_number}
use Rattle.memory_world.proofs.open.running_child.Given as goal

abbrev pub invariant-loop-item : goal.invariant-loop-item
invariant-loop-item l = l.least ≡ least (filter (λ k. not (exited l.items k)) (flat_map started_number (take l.item-index l.items)))
