-- What the connections so far add.
use Rattle.std.proofs.Common.{◌≡◌, ◌++◌, take}
use Rattle.std.specs.List.{flat_map}
use Rattle.sample_parts.specs.Listed.{in_phase}
use Rattle.sample_parts.proofs.events.push_phase.Given as goal

abbrev pub invariant-loop-planned : goal.invariant-loop-planned
invariant-loop-planned l = l.events ≡ l.fn.events ++ flat_map (in_phase l.phase) (take l.planned-index l.group)
