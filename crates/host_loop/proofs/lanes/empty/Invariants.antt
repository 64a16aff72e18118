-- What is so of the outsides so far, by the worst end of their loops; with those that are left they have the order of all.
use Rattle.std.specs.Prelude.{◌≡◌, ◌≤◌, ◌+◌, ◌++◌, true, All, map, reverse, vec_len, vec_capacity}
use Rattle.host_core.specs.Stands.{Good}
use Rattle.host_loop.specs.Loops.{HasEnded, IsAny, WasServed, WhereTold, is_ended}
use Rattle.host_loop.specs.Served.{Served}
use Rattle.host_loop.specs.declared.serve.LoopEnd.TheVariants.{Done, Spent}
use Rattle.host_loop.proofs.lanes.empty.Given as goal

abbrev pub invariant-loop-lane : goal.invariant-loop-lane
invariant-loop-lane g l = record {
  count : vec_len l.outs + vec_len l.lanes ≡ vec_len l.initial.lanes;
  room : vec_len l.outs + vec_len l.lanes ≤ vec_capacity l.outs;
  left : All (λ x. WasServed (Good g.C.Connection.kind l.site) l.turns x.end (g.O.Outside.trace x.out) × (is_ended x.end ≡ true)) l.lanes.items;
  order : l.outs.items ++ reverse (map (λ x. x.out) l.lanes.items) ≡ reverse (map (λ x. x.out) l.initial.lanes.items);
  good : All (λ o. WhereTold (Good g.C.Connection.kind l.site) (g.O.Outside.trace o)) l.outs.items;
  each : All (λ o. WhereTold (HasEnded l.turns) (g.O.Outside.trace o)) l.outs.items;
  done : l.end ≡ Done → All (λ o. WhereTold (Served l.turns Done) (g.O.Outside.trace o)) l.outs.items;
  spent : l.end ≡ Spent → IsAny (λ o. WhereTold (Served l.turns Spent) (g.O.Outside.trace o)) l.outs.items;
  ended : is_ended l.end ≡ true;
}

abbrev pub decreases-loop-lane : goal.decreases-loop-lane
decreases-loop-lane g l = vec_len l.lanes
