-- The least of the items so far.
use Rattle.std.proofs.Common.{◌≡◌, take}
use Rattle.std.specs.Prelude.{filter, not}
use Rattle.std.specs.List.{flat_map}
use Rattle.host_trace.specs.Projections.{start_answered}
use Rattle.host_trace.specs.Kinds.{start_number}
use Rattle.memory_world.specs.NextEvent.{least}
use Rattle.memory_world.proofs.open.open_start.Given as goal

abbrev pub invariant-loop-item : goal.invariant-loop-item
invariant-loop-item l = l.least ≡ least (filter (λ k. not (start_answered l.items k)) (flat_map start_number (take l.item-index l.items)))
