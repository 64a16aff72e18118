-- The cores so far have heard nothing.
use Rattle.std.specs.Prelude.{◌≡◌, ◌≤◌, All, vec_len, vec_capacity}
use Rattle.host_loop.specs.Loops.{HasHeardNothing}
use Rattle.host_loop.proofs.lanes.cores.Given as goal

abbrev pub invariant-loop-i : goal.invariant-loop-i
invariant-loop-i g l = record {
  count : vec_len l.cores ≡ l.i;
  room : l.count ≤ vec_capacity l.cores;
  each : All (HasHeardNothing l.site) l.cores.items;
}
