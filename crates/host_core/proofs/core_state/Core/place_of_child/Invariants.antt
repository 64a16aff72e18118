use Rattle.std.proofs.Common.{◌≡◌, ◌<◌, ℕ, false, get_or}
use Rattle.many_conns.specs.Kept.{is_child}
use Rattle.host_core.specs.Owners.{conns}
use Rattle.host_core.proofs.core_state.Core.place_of_child.Given as goal

abbrev pub invariant-loop-i : goal.invariant-loop-i
invariant-loop-i g l = (j : ℕ) (d : g.row.C.Denot) → j < l.i → is_child (g.C.Connection.kind.last_child_of (get_or (conns l.self) j d)) l.k ≡ false
