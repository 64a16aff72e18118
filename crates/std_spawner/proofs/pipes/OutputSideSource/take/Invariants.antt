use Rattle.std.proofs.Common.{◌≡◌, length}
use Rattle.std_spawner.proofs.pipes.OutputSideSource.take.Given as goal

abbrev pub invariant-loop : goal.invariant-loop
invariant-loop l = length l.into ≡ length l.initial.into
