use Rattle.std.proofs.Common.{◌≤◌, ◌<◌, arith}
use Rattle.many_conns.proofs.OwnerLaws.{none_owned}
use Rattle.host_core.specs.Owners.{conns}
use Rattle.host_core.proofs.core_state.Core.place_of_child.Goals as goal

pub returns : goal.returns
returns g c =
    let len = c.len-count.ensures in
    let test = c.loop-i-test.false in
    let end = c.loop-i.auto in
    none_owned g.C.Connection.kind g.met.C.Connection.laws g.C.Connection.kind.last_child_of (conns c.args.self.now) c.args.k (λ j d lt. c.loop-i.invariant j d (omega (arith, lt, len, test, end)))
