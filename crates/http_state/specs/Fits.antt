-- Which events may come next.
use Rattle.std.specs.Prelude.{Bool, true, ◌&&◌, Option, Some, None}
use Rattle.host_trace.specs.declared.items.Event.{Event}
use Rattle.child_core.specs.Calls.{fits_run}
use Rattle.child_core.specs.View.{View}
use Rattle.conn_flags.specs.Fits.{fits_flags}
use Rattle.http_state.specs.declared.conn.HttpConn.{HttpConn}

abbrev pub fits_run_of : Option View → Event → Bool
fits_run_of None ev = true
fits_run_of (Some v) ev = fits_run v ev

-- an event that names it or its child may come next, as its flags and its child say
abbrev pub fits_conn : HttpConn → Event → Bool
fits_conn conn ev = fits_flags conn.flags ev && fits_run_of conn.run ev
