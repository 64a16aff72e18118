-- A core that has heard nothing is of its own site.
use Rattle.std.proofs.Common.{refl}
use Rattle.host_base.specs.declared.site.Site.{Site}
use Rattle.many_conns.specs.declared.connection.Connection.{Ghosts}
use Rattle.host_core.specs.declared.core_state.Core.{Core}
use Rattle.host_core.specs.Owners.{served}
use Rattle.host_loop.specs.Loops.{HasHeardNothing}

pub heard_nothing : {C : Type 0} {G : Ghosts C} (site : Site) (core : Core C G) → HasHeardNothing site core → HasHeardNothing (served core) core
heard_nothing site core h = record { stands = h.stands; sound = h.sound; site_is = refl; accepted = h.accepted }
