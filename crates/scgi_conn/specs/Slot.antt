-- What a connection holds, and which events may come next.
use Rattle.std.specs.Prelude.{ℕ, Bool, true, not, ◌&&◌, ◌||◌, Option, Some, None, is_some, if◌then◌else◌}
use Rattle.host_trace.specs.declared.items.Event.{Event}
use Rattle.child_core.specs.Calls.{fits_run, is_settled}
use Rattle.child_core.specs.View.{View}
use Rattle.conn_flags.specs.Fits.{fits_flags}
use Rattle.scgi_conn.specs.declared.conn.ScgiConn.{ScgiConn}

abbrev pub number_of_run : Option View → Option ℕ
number_of_run None = None
number_of_run (Some v) = Some v.number

-- settled or not
abbrev pub last_child_of : ScgiConn → Option ℕ
last_child_of conn = number_of_run conn.run

abbrev pub unsettled_of : Option View → Option ℕ
unsettled_of None = None
unsettled_of (Some v) = if is_settled v then None else Some v.number

-- the child that is not settled
abbrev pub unsettled_child_of : ScgiConn → Option ℕ
unsettled_child_of conn = unsettled_of conn.run

-- it is not shut, or its child is not settled
abbrev pub is_held : ScgiConn → Bool
is_held conn = not conn.flags.shut || is_some (unsettled_child_of conn)

abbrev pub fits_run_of : Option View → Event → Bool
fits_run_of None ev = true
fits_run_of (Some v) ev = fits_run v ev

-- an event that names it or its child may come next, as its flags and its child say
abbrev pub fits_conn : ScgiConn → Event → Bool
fits_conn conn ev = fits_flags conn.flags ev && fits_run_of conn.run ev
