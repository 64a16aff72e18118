-- The child of a connection's run.
use Rattle.std.specs.Prelude.{ℕ, Option}
use Rattle.std.specs.Option.{option_map}
use Rattle.child_core.specs.View.{View}
use Rattle.http_state.specs.declared.conn.HttpConn.{HttpConn}

abbrev pub number_in : View → ℕ
number_in v = v.number

-- settled or not
abbrev pub last_child_of : HttpConn → Option ℕ
last_child_of conn = option_map number_in conn.run
