use Rattle.std.proofs.Common.{subst, sym}
use Rattle.std.specs.Prelude.{MatchOption}
use Rattle.many_conns.proofs.SoundLaws.{place_of}
use Rattle.host_core.specs.Owners.{HasNoneBy, IsPlaceBy, conns, served}
use Rattle.host_core.proofs.core_state.Core.place.Goals as goal

pub returns-in-Some : goal.returns-in-Some
returns-in-Some g c =
    let core = c.args.self.now in
    subst (λ w. MatchOption c.find-in-Some.result (HasNoneBy core w) (IsPlaceBy core w)) c.in-Child.ensures
    (place_of g.C.Connection.kind g.met.C.Connection.laws (served core) (conns core) core.children core.accepted core.table c.in-Child.k c.in-Some.c c.requires.lists (sym c.in-Some.ensures) c.find-in-Some.result c.find-in-Some.ensures)
