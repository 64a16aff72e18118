-- The traces of the outsides so far were joined, and there is room for the rest.
use Rattle.std.proofs.Common.{◌≡◌, ◌≤◌, ◌+◌, map}
use Rattle.std.specs.Prelude.{◌&&◌, vec_len, vec_capacity}
use Rattle.std.specs.List.{list_all}
use Rattle.std.specs.Vec.Iter.{into_iter_len}
use Rattle.host_trace.specs.Told.{Joins}
use Rattle.memory_world.specs.MemoryWords.{trace_of, tells_of}
use Rattle.memory_world.specs.WorldWords.{given_of_world, IsRest}
use Rattle.memory_world.proofs.world.MemoryWorld.take_all.Given as goal

abbrev pub invariant-loop-outside : goal.invariant-loop-outside
invariant-loop-outside l = record {
  joins : Joins (given_of_world l.fn.self) (map trace_of l.yielded) (given_of_world l.self);
  tells : l.self.tells ≡ (l.fn.self.tells && list_all tells_of l.yielded);
  same : IsRest l.fn.self l.self;
  room : vec_len l.self.given + l.self.out + into_iter_len l.outside-iterator ≤ vec_capacity l.self.given;
}
