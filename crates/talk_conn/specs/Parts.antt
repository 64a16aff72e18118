-- What the parts of a step make of a connection that speaks WebSocket, and which acts they give.
use Rattle.std.specs.Prelude.{ℕ, Bool, true, false, not, ◌||◌, ◌&&◌, List, [], ◌∷◌, Option, Some, None, if◌then◌else◌}
use Rattle.host_trace.specs.declared.items.Act.{Act}
use Rattle.host_trace.specs.declared.items.Act.TheVariants.{Says, Shut, WantClient}
use Rattle.host_trace.specs.declared.items.Event.{Event}
use Rattle.host_trace.specs.declared.items.Item.TheVariants.{In, Out}
use Rattle.host_trace.specs.declared.items.Why.{Why}
use Rattle.host_trace.specs.declared.items.Why.TheVariants.{Done, Gone, NoMemory, Stopped}
use Rattle.child_core.specs.declared.ending.Ending.TheVariants.{Dropped}
use Rattle.child_core.specs.Calls.{ended, wants_text}
use Rattle.child_core.specs.Due.{acted as run_acted, acting as run_acting}
use Rattle.conn_flags.specs.View.{has_room, is_live, noted}
use Rattle.talk_core.specs.Acting.{acted, acting}
use Rattle.talk_core.specs.Hearing.{heard, run_heard}
use Rattle.talk_core.specs.View.{given_up}
use Rattle.talk_conn.specs.declared.conn.TalkConn.{TalkConn}

-- ---- memory runs out

-- the talk is over, and its child given up
abbrev pub given_up_conn : TalkConn → TalkConn
given_up_conn conn = record conn { lost = true; talk = given_up conn.talk; run = ended conn.run Dropped }

-- ---- an event

-- it was heard, or memory ran out for it
abbrev pub heard_conn : Bool → Event → TalkConn → TalkConn
heard_conn true ev conn = record conn {
  flags = noted conn.flags (In ev);
  talk = heard conn.talk conn.run ev;
  run = run_heard conn.talk conn.run ev;
}
heard_conn false ev conn = record conn {
  flags = noted conn.flags (In ev);
  lost = true;
  talk = given_up conn.talk;
  run = ended (run_heard conn.talk conn.run ev) Dropped;
}

-- ---- the talk

-- its messages and its close frame were given, or memory ran out for the messages
abbrev pub said_conn : Bool → TalkConn → TalkConn
said_conn true conn = record conn { flags = noted conn.flags (Out (Says conn.flags.c conn.talk.texts)); talk = acted conn.talk }
said_conn false conn = given_up_conn conn

abbrev pub acts_said : Bool → TalkConn → List Act
acts_said true conn = acting conn.talk
acts_said false conn = []

-- ---- the child

-- its output may be asked for: not too much waits to be sent, or the connection is to be shut
abbrev pub may_want : TalkConn → Bool
may_want conn = has_room conn.flags || conn.talk.over

-- what is due for it was given, or memory ran out for a text: then what is due for it once it is given up
abbrev pub acted_conn : Bool → TalkConn → TalkConn
acted_conn true conn = record conn { run = run_acted (may_want conn) conn.run }
acted_conn false conn = record conn { lost = true; talk = given_up conn.talk; run = run_acted (may_want conn) (ended conn.run Dropped) }

abbrev pub acts_acted : Bool → TalkConn → List Act
acts_acted true conn = run_acting (may_want conn) conn.run
acts_acted false conn = run_acting (may_want conn) (ended conn.run Dropped)

-- ---- the end of a step

-- why it is to be shut
abbrev pub why_of : TalkConn → Option Why
why_of conn =
    if not (is_live conn.flags) then None
    else (if conn.lost then Some NoMemory
    else (if conn.flags.stopped then Some Stopped else (if conn.flags.gone then Some Gone else (if conn.talk.over then Some Done else None))))

abbrev pub shut_conn : Option Why → TalkConn → TalkConn
shut_conn None conn = conn
shut_conn (Some why) conn = record conn { flags = noted conn.flags (Out (Shut conn.flags.c why)); talk = given_up conn.talk }

abbrev pub acts_shut : ℕ → Option Why → List Act
acts_shut c None = []
acts_shut c (Some why) = Shut c why ∷ []

-- a text may be heard, and the client was not asked
abbrev pub is_ask_due : TalkConn → Bool
is_ask_due conn = is_live conn.flags && has_room conn.flags && wants_text conn.run && not conn.flags.asked

abbrev pub asked_conn : Bool → TalkConn → TalkConn
asked_conn true conn = record conn { flags = noted conn.flags (Out (WantClient conn.flags.c)) }
asked_conn false conn = conn

abbrev pub acts_asked : ℕ → Bool → List Act
acts_asked c true = WantClient c ∷ []
acts_asked c false = []
