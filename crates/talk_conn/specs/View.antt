-- What is told of a connection that speaks WebSocket.
use Rattle.std.specs.Prelude.{ℕ, ◌≡◌, Bool, true}
use Rattle.host_base.specs.declared.site.Site.{Site}
use Rattle.host_trace.specs.Decider.{is_websocket}
use Rattle.child_core.specs.View.{View as Run}
use Rattle.conn_flags.specs.View.{View as Flags}
use Rattle.talk_core.specs.View.{View as Talk}
use Rattle.talk_conn.specs.declared.conn.TalkConn.{TalkConn}

abbrev pub site_of : TalkConn → Site
site_of conn = conn.site.now

abbrev pub flags_of : TalkConn → Flags
flags_of conn = conn.flags

abbrev pub number_of : TalkConn → ℕ
number_of conn = (flags_of conn).c

abbrev pub talk_of : TalkConn → Talk
talk_of conn = conn.talk

abbrev pub run_of : TalkConn → Run
run_of conn = conn.run

-- memory ran out
abbrev pub was_lost : TalkConn → Bool
was_lost conn = conn.lost

-- its talk is that of the connection, and its program a WebSocket's
pub record IsTalk (conn : TalkConn) : Type 0 where
  pub kind : is_websocket (run_of conn).kind ≡ true
  pub number : (talk_of conn).conn ≡ number_of conn
