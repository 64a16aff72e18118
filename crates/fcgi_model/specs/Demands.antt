-- What is demanded of a connection at a step's end.
use Rattle.std.specs.Prelude.{ℕ, Bool, true, false, not, ◌&&◌, List, Option, Some, None, is_some, Result, Ok, Err, if◌then◌else◌}
use Rattle.std.specs.List.{list_any}
use Rattle.host_base.specs.declared.cause.Cause.{Cause}
use Rattle.host_base.specs.declared.launch.Launch.{Launch}
use Rattle.host_base.specs.declared.site.Site.{Site}
use Rattle.host_trace.specs.declared.items.Item.{Item}
use Rattle.host_trace.specs.declared.items.Why.{Why}
use Rattle.host_trace.specs.declared.items.Why.TheVariants.{Gone, Stopped, NoMemory}
use Rattle.host_trace.specs.Account.{has_unsettled}
use Rattle.host_trace.specs.Kinds.{is_accepted, is_no_room}
use Rattle.host_trace.specs.Projections.{stopped}
use Rattle.trace_model.specs.Demands.{is_live, has_room, client_ended}
use Rattle.trace_model.specs.Shuts.{is_gone}
use Rattle.fcgi_turns.specs.Turns.{Active, turns_of, is_whole, launch_of}

-- ---- its start

abbrev pub launch_by : Result Launch Cause → Option Launch
launch_by (Ok launch) = Some launch
launch_by (Err cause) = None

abbrev pub launch_if : Site → Active → Bool → Option Launch
launch_if site a true = launch_by (launch_of site a)
launch_if site a false = None

-- the launch of the active request, where it is whole and not started
abbrev pub launch_due : Site → Option Active → Option Launch
launch_due site None = None
launch_due site (Some a) = launch_if site a (is_whole a && not (is_some a.child))

-- the earlier child is settled, and not too much waits to be sent
abbrev pub may_begin : ℕ → List Item → Bool
may_begin c L = is_live c L && has_room c L && not (has_unsettled L c)

abbrev pub must_begin : Site → ℕ → List Item → Bool
must_begin site c L = may_begin c L && is_some (launch_due site (turns_of site c L).active)

-- ---- the client is asked, so that an ABORT is heard

abbrev pub must_hear : ℕ → List Item → Bool
must_hear c L = is_live c L && has_room c L && not (client_ended c L)

-- ---- it is shut

abbrev pub why_due : Site → ℕ → List Item → Option Why
why_due site c L =
    if not (list_any is_accepted L) then None
    else (if stopped L then Some Stopped
    else (if is_gone c L then Some Gone
    else (if list_any (is_no_room c) L then Some NoMemory else (turns_of site c L).over)))
