-- What a connection that speaks WebSocket holds, and which events may come next.
use Rattle.std.specs.Prelude.{ℕ, Bool, not, ◌&&◌, ◌||◌, Option, Some, None, if◌then◌else◌}
use Rattle.host_trace.specs.declared.items.Event.{Event}
use Rattle.child_core.specs.Calls.{fits_run, is_settled}
use Rattle.conn_flags.specs.Fits.{fits_flags}
use Rattle.talk_conn.specs.declared.conn.TalkConn.{TalkConn}

-- settled or not
abbrev pub last_child_of : TalkConn → ℕ
last_child_of conn = conn.run.number

-- the child that is not settled
abbrev pub unsettled_child_of : TalkConn → Option ℕ
unsettled_child_of conn = if is_settled conn.run then None else Some conn.run.number

-- it is not shut, or its child is not settled
abbrev pub is_held : TalkConn → Bool
is_held conn = not conn.flags.shut || not (is_settled conn.run)

-- an event that names it or its child may come next, as its flags and its child say
abbrev pub fits_talk : TalkConn → Event → Bool
fits_talk conn ev = fits_flags conn.flags ev && fits_run conn.run ev
