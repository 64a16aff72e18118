-- Nothing is lost of the launch, and no fault is forgotten.
use Rattle.std.proofs.Common.{◌≡◌, ◌≤◌}
use Rattle.std_spawner.specs.NewsEnds.{launch_heard}
use Rattle.std_spawner.proofs.kid.StdKid.await_start.Given as goal

abbrev pub invariant-loop : goal.invariant-loop
invariant-loop g l = (launch_heard l.self.listener ≡ launch_heard l.initial.self.listener) × (l.initial.self.faults ≤ l.self.faults)
