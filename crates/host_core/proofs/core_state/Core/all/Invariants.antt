use Rattle.std.proofs.Common.{◌≡◌}
use Rattle.std.specs.Prelude.{length}
use Rattle.host_trace.specs.Told.{AddsActs}
use Rattle.host_core.specs.Owners.{Sound, conns}
use Rattle.host_core.specs.Stands.{common_event}
use Rattle.host_core.proofs.StandsLaws.{All, AsNoted}
use Rattle.host_core.proofs.core_state.Core.all.Given as goal

abbrev pub invariant-loop-i : goal.invariant-loop-i
invariant-loop-i g l = record {
  sound : Sound l.self;
  all : All g.met.C.Connection.laws l.fn.self l.self l.i (common_event l.secs) (g.O.Outside.trace l.initial.out) (g.O.Outside.trace l.out);
  told : AddsActs (g.O.Outside.trace l.initial.out) (g.O.Outside.trace l.out);
  limit : g.O.Outside.limit l.out ≡ g.O.Outside.limit l.initial.out;
  same : AsNoted g.met.C.Connection.laws l.initial.self l.self;
  end : l.i-end ≡ length (conns l.self);
}
