-- What the parts of a step make of a connection, and which acts they give.
use Rattle.std.specs.Prelude.{ℕ, Bool, true, false, not, ◌&&◌, ◌==◌, ◌+◌, List, [], ◌∷◌, Option, Some, None, if◌then◌else◌}
use Rattle.host_base.specs.declared.launch.Launch.{Launch}
use Rattle.host_base.specs.declared.limits.Limits.{Limits}
use Rattle.host_base.specs.declared.site.ScriptKind.TheVariants.{Cgi}
use Rattle.host_trace.specs.declared.items.Act.{Act}
use Rattle.host_trace.specs.declared.items.Act.TheVariants.{Shut, Start, WantClient, Write}
use Rattle.host_trace.specs.declared.items.Event.{Event}
use Rattle.host_trace.specs.declared.items.Event.TheVariants.{Accepted, ClientBytes, ClientGone, WsBad, NoRoom, Tick}
use Rattle.host_trace.specs.declared.items.Item.TheVariants.{In, Out}
use Rattle.host_trace.specs.declared.items.Why.{Why}
use Rattle.limit_clock.specs.Deadlines.{after_tick, is_last}
use Rattle.child_core.specs.declared.ending.Ending.TheVariants.{Dropped, Gone}
use Rattle.child_core.specs.declared.ending.Outcome.{Outcome}
use Rattle.child_core.specs.declared.ending.Outcome.TheVariants.{Output}
use Rattle.child_core.specs.Calls.{drained, ended, heard, is_kept, offered}
use Rattle.child_core.specs.Due.{acted, acted_by, acting, acting_by, is_feed_due}
use Rattle.child_core.specs.View.{View, begun}
use Rattle.conn_flags.specs.View.{is_live, noted}
use Rattle.scgi_reader.specs.View.{View as Read}
use Rattle.scgi_conn.specs.declared.conn.ScgiConn.{ScgiConn}
use Rattle.scgi_conn.specs.declared.stage.End.TheVariants.{Done, NoMemory}
use Rattle.scgi_conn.specs.declared.stage.Stage.{Stage}
use Rattle.scgi_conn.specs.declared.stage.Stage.TheVariants.{Answered, Hearing, Over, Running, Starting}
use Rattle.scgi_conn.specs.Ends.{why_for}
use Rattle.scgi_conn.specs.Stages.{after_event, after_run}

-- ---- memory runs out

abbrev pub given_up : Option View → Option View
given_up None = None
given_up (Some v) = Some (ended v Dropped)

-- the connection is over, and its child is given up
abbrev pub lost_conn : ScgiConn → ScgiConn
lost_conn conn = record conn { stage = Over NoMemory; run = given_up conn.run }

-- ---- an event, as far as the child goes

-- what ends its connection, or an event of its own
abbrev pub told_run : ℕ → View → Event → Bool → View
told_run c v (ClientGone d) found = if c == d then ended v Gone else v
told_run c v (WsBad d) found = if c == d then ended v Gone else v
told_run c v (NoRoom d) found = if c == d then ended v Dropped else v
told_run c v ev found = heard v ev found

-- .. or no memory was found for its output, and it is given up
abbrev pub run_heard : ℕ → Bool → Event → View → View
run_heard c true ev v = told_run c v ev true
run_heard c false ev v = ended (heard v ev false) Dropped

abbrev pub run_told : ℕ → Bool → Event → Option View → Option View
run_told c found ev None = None
run_told c found ev (Some v) = Some (run_heard c found ev v)

abbrev pub run_kept : Option View → Event → Bool
run_kept None ev = false
run_kept (Some v) ev = is_kept v ev

abbrev pub told_conn : Bool → Event → ScgiConn → ScgiConn
told_conn found ev conn = record conn { flags = noted conn.flags (In ev); run = run_told conn.flags.c found ev conn.run }

-- ---- .. and as far as the request goes

abbrev pub idle_after : ScgiConn → Event → ℕ
idle_after conn (Accepted peer) = conn.site.now.limits.idle_ticks
idle_after conn (ClientBytes d bytes) = if conn.flags.c == d then conn.site.now.limits.idle_ticks else conn.idle
idle_after conn (Tick secs) = if is_live conn.flags then after_tick conn.idle else conn.idle
idle_after conn _ = conn.idle

-- it is the Tick by which the client was idle as long as it may be
abbrev pub is_idle_end : ScgiConn → Event → Bool
is_idle_end conn (Tick secs) = is_live conn.flags && is_last conn.idle
is_idle_end conn _ = false

abbrev pub stage_after : ScgiConn → Event → Read → Stage
stage_after conn ev r = after_event conn.site.now.hosts conn.flags.c (is_idle_end conn ev) ev r

abbrev pub heard_by : Bool → Read → Event → ScgiConn → ScgiConn
heard_by true r ev conn = record conn { idle = idle_after conn ev; stage = stage_after conn ev r }
heard_by false r ev conn = record conn { idle = idle_after conn ev; stage = Over NoMemory; run = given_up conn.run }

abbrev pub heard_at : Bool → Stage → Event → ScgiConn → ScgiConn
heard_at found (Hearing r) ev conn = heard_by found r ev conn
heard_at found _ ev conn = conn

abbrev pub heard_conn : Bool → Event → ScgiConn → ScgiConn
heard_conn found ev conn = heard_at found conn.stage ev conn

-- ---- the answer of a run that was decided

abbrev pub outcome_of : Option View → Option Outcome
outcome_of None = None
outcome_of (Some v) = v.outcome

abbrev pub output_of : Option View → List ℕ
output_of None = []
output_of (Some v) = v.output

abbrev pub drained_run : Option View → Option View
drained_run None = None
drained_run (Some v) = Some (drained v)

-- the output is moved
abbrev pub handed_run : Outcome → Option View → Option View
handed_run Output run = drained_run run
handed_run _ run = run

abbrev pub settled_by : Bool → Option Outcome → ScgiConn → ScgiConn
settled_by found None conn = conn
settled_by true (Some outcome) conn = record conn { stage = after_run (output_of conn.run) (Some outcome); run = handed_run outcome conn.run }
settled_by false (Some outcome) conn = record conn { stage = Over NoMemory; run = given_up (handed_run outcome conn.run) }

abbrev pub settled_at : Bool → Stage → ScgiConn → ScgiConn
settled_at found Running conn = settled_by found (outcome_of conn.run) conn
settled_at found _ conn = conn

abbrev pub settled_conn : Bool → ScgiConn → ScgiConn
settled_conn found conn = settled_at found conn.stage conn

-- ---- the answer is written

abbrev pub is_written : Stage → Bool
is_written (Answered bytes) = true
is_written _ = false

abbrev pub written_by : Bool → List ℕ → ScgiConn → ScgiConn
written_by true bytes conn = record conn { flags = noted conn.flags (Out (Write conn.flags.c bytes)); stage = Over Done }
written_by false bytes conn = lost_conn conn

abbrev pub acts_of_answer : Bool → List ℕ → ℕ → List Act
acts_of_answer true bytes c = Write c bytes ∷ []
acts_of_answer false bytes c = []

abbrev pub written_at : Bool → Stage → ScgiConn → ScgiConn
written_at found (Answered bytes) conn = written_by found bytes conn
written_at found _ conn = conn

abbrev pub acts_written_at : Bool → Stage → ScgiConn → List Act
acts_written_at found (Answered bytes) conn = acts_of_answer found bytes conn.flags.c
acts_written_at found _ conn = []

abbrev pub written_conn : Bool → ScgiConn → ScgiConn
written_conn found conn = written_at found conn.stage conn

abbrev pub acts_written : Bool → ScgiConn → List Act
acts_written found conn = acts_written_at found conn.stage conn

-- ---- the child

abbrev pub is_run_fed : Option View → Bool
is_run_fed None = false
is_run_fed (Some v) = is_feed_due v

abbrev pub acted_run : Bool → Option View → Option View
acted_run found None = None
acted_run found (Some v) = Some (acted_by found true v)

abbrev pub acting_run : Bool → Option View → List Act
acting_run found None = []
acting_run found (Some v) = acting_by found true v

-- what is due for it was given, or memory ran out for a piece of its input: then what is due for it once it is given up
abbrev pub acted_conn : Bool → ScgiConn → ScgiConn
acted_conn true conn = record conn { run = acted_run true conn.run }
acted_conn false conn = record conn { stage = Over NoMemory; run = acted_run true (given_up conn.run) }

abbrev pub acts_acted : Bool → ScgiConn → List Act
acts_acted true conn = acting_run true conn.run
acts_acted false conn = acting_run true (given_up conn.run)

-- ---- the Start

-- the run of a child with this number, for a request with this body
abbrev pub run_begun : Limits → ℕ → List ℕ → View
run_begun limits k body = offered (begun k Cgi limits) body true

abbrev pub next_if : Bool → ℕ → ℕ
next_if true n = n + 1
next_if false n = n

abbrev pub begun_by : Bool → ℕ → List ℕ → ScgiConn → ScgiConn
begun_by true k body conn = record conn { stage = Running; run = Some (run_begun conn.site.now.limits k body) }
begun_by false k body conn = lost_conn conn

abbrev pub acts_of_start : Bool → ℕ → Launch → ℕ → List Act
acts_of_start true k launch c = Start k c 0 0 launch ∷ []
acts_of_start false k launch c = []

abbrev pub begun_at : Bool → ℕ → Stage → ScgiConn → ScgiConn
begun_at found k (Starting launch request) conn = begun_by found k request.body conn
begun_at found k _ conn = conn

abbrev pub acts_begun_at : Bool → ℕ → Stage → ScgiConn → List Act
acts_begun_at found k (Starting launch request) conn = acts_of_start found k launch conn.flags.c
acts_begun_at found k _ conn = []

abbrev pub next_begun_at : Bool → Stage → ℕ → ℕ
next_begun_at found (Starting launch request) n = next_if found n
next_begun_at found _ n = n

abbrev pub begun_conn : Bool → ℕ → ScgiConn → ScgiConn
begun_conn found k conn = begun_at found k conn.stage conn

abbrev pub acts_begun : Bool → ℕ → ScgiConn → List Act
acts_begun found k conn = acts_begun_at found k conn.stage conn

abbrev pub next_begun : Bool → ScgiConn → ℕ → ℕ
next_begun found conn n = next_begun_at found conn.stage n

-- ---- the end of a step

-- why it is to be shut
abbrev pub why_at : Stage → Option Why
why_at (Over end) = Some (why_for end)
why_at _ = None

abbrev pub why_of : ScgiConn → Option Why
why_of conn = if is_live conn.flags then why_at conn.stage else None

abbrev pub shut_conn : Option Why → ScgiConn → ScgiConn
shut_conn None conn = conn
shut_conn (Some why) conn = record conn { flags = noted conn.flags (Out (Shut conn.flags.c why)) }

abbrev pub acts_shut : ℕ → Option Why → List Act
acts_shut c None = []
acts_shut c (Some why) = Shut c why ∷ []

abbrev pub is_hearing : Stage → Bool
is_hearing (Hearing r) = true
is_hearing _ = false

-- more of the request is to come, and the client was not asked
abbrev pub is_ask_due : ScgiConn → Bool
is_ask_due conn = is_hearing conn.stage && is_live conn.flags && not conn.flags.asked

abbrev pub asked_conn : Bool → ScgiConn → ScgiConn
asked_conn true conn = record conn { flags = noted conn.flags (Out (WantClient conn.flags.c)) }
asked_conn false conn = conn

abbrev pub acts_asked : ℕ → Bool → List Act
acts_asked c true = WantClient c ∷ []
acts_asked c false = []
