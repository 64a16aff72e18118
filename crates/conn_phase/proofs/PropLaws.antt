-- That a connection may be stepped has one proof at most.
use Rattle.std.specs.Coded.{Unit-prop}
use Rattle.std.proofs.Props.{props}
use Rattle.talk_conn.specs.declared.conn.TalkConn.{TalkConn}
use Rattle.talk_conn.specs.View.{IsTalk}
use Rattle.conn_phase.specs.declared.phase.Phase.{Phase}
use Rattle.conn_phase.specs.declared.phase.Phase.TheVariants.{Http, Talk, Shut}
use Rattle.conn_phase.specs.Phase.{may_step}

talk_prop : (talk : TalkConn) → IsProp (IsTalk talk)
talk_prop talk = hlevel props

pub may_step_prop : (conn : Phase) → IsProp (may_step conn)
may_step_prop (Http conn) = Unit-prop
may_step_prop (Talk talk) = talk_prop talk
may_step_prop (Shut site c) = Unit-prop
