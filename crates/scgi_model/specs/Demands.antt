-- What is demanded of a connection at a step's end.
use Rattle.std.specs.Prelude.{ℕ, Bool, true, false, not, ◌&&◌, List, Option, Some, None, Result, Ok, Err, if◌then◌else◌}
use Rattle.std.specs.List.{list_any}
use Rattle.host_base.specs.declared.cause.Cause.{Cause}
use Rattle.host_base.specs.declared.launch.Launch.{Launch}
use Rattle.host_base.specs.declared.site.Site.{Site}
use Rattle.host_trace.specs.declared.items.Item.{Item}
use Rattle.host_trace.specs.declared.items.Why.{Why}
use Rattle.host_trace.specs.declared.items.Why.TheVariants.{Done, Gone, Idle, Stopped, NoMemory}
use Rattle.host_trace.specs.First.{last_of}
use Rattle.host_trace.specs.Kinds.{is_accepted, is_no_room, is_tick}
use Rattle.host_trace.specs.Projections.{stopped}
use Rattle.trace_model.specs.Demands.{is_live, client_ended}
use Rattle.trace_model.specs.Shuts.{is_gone}
use Rattle.scgi_model.specs.Request.{reading, is_more, launch_of}
use Rattle.scgi_model.specs.Breaks.{left}
use Rattle.front_answers.specs.Answer.{is_answered}
use Rattle.scgi_model.specs.Answer.{answer}

-- ---- its start

abbrev pub is_to_start : Option (Result Launch Cause) → Bool
is_to_start (Some (Ok launch)) = true
is_to_start (Some (Err cause)) = false
is_to_start None = false

-- the request is whole and maps
abbrev pub must_begin : Site → ℕ → List Item → Bool
must_begin site c L = is_live c L && is_to_start (launch_of site (reading site c L))

-- ---- the client is asked

abbrev pub must_hear : Site → ℕ → List Item → Bool
must_hear site c L = is_live c L && is_more (reading site c L) && not (client_ended c L)

-- ---- it is shut

abbrev pub is_last_tick : Option Item → Bool
is_last_tick None = false
is_last_tick (Some x) = is_tick x

-- it sent nothing: for the idle time, or up to the end of its input
abbrev pub why_left : Option (List Item) → Option Why
why_left None = None
why_left (Some front) = Some (if is_last_tick (last_of front) then Idle else Done)

-- the first of the reasons that there are for a connection that was accepted
abbrev pub why_due : Site → ℕ → List Item → Option Why
why_due site c L =
    if not (list_any is_accepted L) then None
    else (if stopped L then Some Stopped
    else (if is_gone c L then Some Gone
    else (if list_any (is_no_room c) L then Some NoMemory
    else (if is_answered (answer site c L) then Some Done else why_left (left site c L)))))
