-- What the groups so far add.
use Rattle.std.proofs.Common.{◌≡◌, ◌++◌}
use Rattle.sample_parts.specs.Listed.{of_groups}
use Rattle.sample_parts.proofs.events.push_groups.Given as goal

abbrev pub invariant-loop-number : goal.invariant-loop-number
invariant-loop-number l = l.events ≡ l.fn.events ++ of_groups l.planned l.number
