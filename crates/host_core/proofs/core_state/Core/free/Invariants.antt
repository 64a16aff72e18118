use Rattle.std.proofs.Common.{◌≡◌, ◌-◌}
use Rattle.host_core.specs.Owners.{IsRest, Sound, conns}
use Rattle.host_core.proofs.FreedLaws.{freed_from}
use Rattle.host_core.proofs.core_state.Core.free.Given as goal

abbrev pub invariant-loop-turn : goal.invariant-loop-turn
invariant-loop-turn g l = record {
  sound : Sound l.self;
  rest : IsRest l.initial.self l.self;
  conns_then : conns l.self ≡ freed_from g.C.Connection.kind (l.count - l.turn) (conns l.initial.self);
}
