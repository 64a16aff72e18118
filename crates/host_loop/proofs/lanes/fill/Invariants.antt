-- As many cores are left as outsides, the lanes so far have heard nothing, and with the outsides that are left they have the
-- order of all.
use Rattle.std.specs.Prelude.{◌≡◌, ◌≤◌, ◌+◌, ◌++◌, All, map, reverse, vec_len, vec_capacity}
use Rattle.host_core.specs.Owners.{served}
use Rattle.host_loop.specs.Loops.{HasHeardNothing, IsFresh}
use Rattle.host_loop.proofs.lanes.fill.Given as goal

abbrev pub invariant-loop-core : goal.invariant-loop-core
invariant-loop-core g l = record {
  same : vec_len l.cores ≡ vec_len l.outs;
  count : vec_len l.lanes + vec_len l.outs ≡ vec_len l.initial.outs;
  room : vec_len l.lanes + vec_len l.outs ≤ vec_capacity l.lanes;
  kept : vec_capacity l.outs ≡ vec_capacity l.initial.outs;
  order : l.outs.items ++ reverse (map (λ x. x.out) l.lanes.items) ≡ l.initial.outs.items;
  cores : All (HasHeardNothing l.site) l.cores.items;
  outs : All (λ o. IsFresh (g.O.Outside.trace o) × (g.O.Outside.limit o ≡ l.site.limits.children)) l.outs.items;
  lanes : All (λ x. (served x.core ≡ l.site) × (HasHeardNothing (served x.core) x.core × (IsFresh (g.O.Outside.trace x.out) × (g.O.Outside.limit x.out ≡ (served x.core).limits.children)))) l.lanes.items;
}

abbrev pub decreases-loop-core : goal.decreases-loop-core
decreases-loop-core g l = vec_len l.cores
