-- What a connection holds.
use Rattle.std.specs.Prelude.{ℕ, Bool, true, ◌&&◌, Option, Some, None, if◌then◌else◌}
use Rattle.child_core.specs.View.{View}
use Rattle.child_core.specs.Calls.{is_settled}
use Rattle.http_state.specs.declared.conn.HttpConn.{HttpConn}
use Rattle.http_state.specs.declared.conn.Held.{Held}
use Rattle.http_state.specs.declared.conn.Held.TheVariants.{Yes, No}

abbrev pub unsettled_of : Option View → Option ℕ
unsettled_of None = None
unsettled_of (Some v) = if is_settled v then None else Some v.number

-- the child that is not settled
abbrev pub unsettled_child_of : HttpConn → Option ℕ
unsettled_child_of conn = unsettled_of conn.run

abbrev pub run_settled : Option View → Bool
run_settled None = true
run_settled (Some v) = is_settled v

-- it is not shut, or its child is not settled
abbrev pub held_of : HttpConn → Held
held_of conn = if conn.flags.shut && run_settled conn.run then No else Yes
