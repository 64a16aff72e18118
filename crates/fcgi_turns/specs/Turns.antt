-- The turns of a connection, which speaks FastCGI: its records in order, each with what it makes due, and what the items of
-- its children make of the request that is active.
use Rattle.std.specs.Prelude.{ℕ, ◌+◌, ◌*◌, ◌%◌, Bool, true, false, not, ◌&&◌, ◌||◌, ◌==◌, nat_lt, List, [], ◌∷◌, ◌++◌, length, fold, Option, Some, None, is_some, Result, Ok, Err, if◌then◌else◌}
use Rattle.std.specs.List.{list_any}
use Rattle.host_base.specs.declared.cause.Cause.{Cause}
use Rattle.host_base.specs.declared.cause.Cause.TheVariants.{BadParams, BadRecord, BodyTooLong, HeadTooLong, Incomplete, Full}
use Rattle.host_base.specs.declared.fields.Field.{Field}
use Rattle.host_base.specs.declared.launch.Launch.{Launch}
use Rattle.host_base.specs.declared.site.ScriptKind.TheVariants.{Cgi}
use Rattle.host_base.specs.declared.site.Site.{Site}
use Rattle.host_trace.specs.declared.items.Event.TheVariants.{WsBinary}
use Rattle.host_trace.specs.declared.items.Item.{Item}
use Rattle.host_trace.specs.declared.items.Item.TheVariants.{In}
use Rattle.host_trace.specs.declared.items.Why.{Why}
use Rattle.host_trace.specs.declared.items.Why.TheVariants.{Done, Cut, Idle}
use Rattle.host_trace.specs.Account.{has_unsettled}
use Rattle.host_trace.specs.Decider.{Outcome, derived, unanswered, failed}
use Rattle.host_trace.specs.Kinds.{is_accepted, is_client_bytes, is_client_eof, is_tick, bytes_heard, child_started}
use Rattle.host_trace.specs.Projections.{child_out, shut}
use Rattle.trace_child.specs.Run.{Run}
use Rattle.trace_child.specs.Decided.{decides_run, outcome_at}
use Rattle.meta_variables.specs.Gateway.{gateway_launch_of}
use Rattle.fcgi_records.specs.declared.kinds.TheConstants.{BEGIN_REQUEST, ABORT_REQUEST, PARAMS, STDIN, GET_VALUES, GET_VALUES_RESULT, UNKNOWN_TYPE}
use Rattle.fcgi_records.specs.declared.record.Record.{Record}
use Rattle.fcgi_records.specs.Records.{Reading, read_records}
use Rattle.fcgi_records.specs.Pairs.{pairs_of}
use Rattle.front_answers.specs.Answer.{by_output, text_of_answer}
use Rattle.reply_writer.specs.FaultReply.{fault_text}
use Rattle.fcgi_turns.specs.Texts.{complete, cant_multiplex, overloaded, unknown_role, unknown_content, values_content}
use Rattle.fcgi_turns.specs.Due.{Due, answered, ended, given_up, refused, replied, all_bytes}

-- ---- what is known

-- a request, from its BEGIN until its END
pub record Active : Type 0 where
  pub id : ℕ
  pub keeps : Bool  -- the connection is to be kept (KEEP_CONN)
  pub params : List ℕ
  pub params_ended : Bool
  pub stdin : List ℕ
  pub stdin_ended : Bool
  pub child : Option ℕ

-- a child that was started, with the body for its input
pub record Begun : Type 0 where
  pub child : ℕ
  pub body : List ℕ

pub record Turns : Type 0 where
  pub rest : List ℕ  -- bytes that are not read as records yet
  pub active : Option Active
  pub ids : List ℕ  -- those of the requests that were begun
  pub due : List Due  -- what is due to be written so far
  pub over : Option Why  -- why the connection is to be shut, as far as this tells
  pub ended : Bool  -- its client ended its input
  pub idle : ℕ  -- Ticks without a byte of the client and without a child
  pub broke_off : Bool  -- records of the item ended the run of a child
  pub begun : List Begun
  pub seen : List Item  -- the items as the runs of its children see them

abbrev pub no_turns : Turns
no_turns = record {
  rest = [];
  active = None;
  ids = [];
  due = [];
  over = None;
  ended = false;
  idle = 0;
  broke_off = false;
  begun = [];
  seen = [];
}

-- the bytes that are due so far
abbrev pub out_of : Turns → List ℕ
out_of t = all_bytes t.due

-- ---- an active request

abbrev pub new_active : ℕ → Bool → Active
new_active id keeps = record { id = id; keeps = keeps; params = []; params_ended = false; stdin = []; stdin_ended = false; child = None }

abbrev pub is_whole : Active → Bool
is_whole a = a.params_ended && a.stdin_ended

-- its variables, where they are a list of pairs
abbrev pub launch_by : Site → Option (List Field) → Result Launch Cause
launch_by site None = Err BadParams
launch_by site (Some pairs) = gateway_launch_of site.hosts pairs

abbrev pub launch_of : Site → Active → Result Launch Cause
launch_of site a = launch_by site (pairs_of a.params)

-- ---- what ends one

abbrev pub with_due : Due → Turns → Turns
with_due due t = record t { due = t.due ++ due ∷ [] }

abbrev pub or_why : Option Why → Option Why → Option Why
or_why None other = other
or_why (Some why) other = Some why

-- .. with its END; the connection goes on where that was asked for and its client may go on
abbrev pub finished : Active → Due → Turns → Turns
finished a due t =
    record t { active = None; due = t.due ++ due ∷ []; over = or_why t.over (if a.keeps && not t.ended then None else Some Done) }

-- by a cause, whose text is its answer
abbrev pub faulted : Active → Cause → Turns → Turns
faulted a cause t = finished a (answered a.id (fault_text cause)) t

-- by ABORT: its run is ended with no answer
abbrev pub aborted : Active → Turns → Turns
aborted a t = record (finished a (ended a.id complete) t) { broke_off = is_some a.child || t.broke_off }

abbrev pub has_child : Option Active → Bool
has_child None = false
has_child (Some a) = is_some a.child

abbrev pub given_up_by : Option Active → List Due
given_up_by None = []
given_up_by (Some a) = given_up a.id ∷ []

-- by a record that can't be: the run is ended, and the connection too
abbrev pub broken : Turns → Turns
broken t =
    record t { active = None; due = t.due ++ given_up_by t.active; over = Some (Cut BadRecord); broke_off = has_child t.active || t.broke_off }

-- ---- records

abbrev pub flag_keeps : ℕ → Bool
flag_keeps flags = not (flags % 2 == 0)

-- the only role that is served (FastCGI 1.0, 6.2)
abbrev pub responder : ℕ
responder = 1

-- BEGIN of 8 bytes: role, flags
abbrev pub begin_alone : Turns → ℕ → ℕ → Bool → Turns
begin_alone t id role keeps =
    if role == responder then record t { active = Some (new_active id keeps); ids = t.ids ++ id ∷ [] } else with_due (refused id unknown_role) t

abbrev pub begin_by : Turns → ℕ → ℕ → Bool → Option Active → Turns
begin_by t id role keeps None = begin_alone t id role keeps
begin_by t id role keeps (Some a) = if a.id == id then broken t else with_due (refused id cant_multiplex) t

abbrev pub on_begin : Turns → ℕ → List ℕ → Turns
on_begin t id (high ∷ low ∷ flags ∷ a ∷ b ∷ c ∷ d ∷ e ∷ []) = begin_by t id (high * 256 + low) (flag_keeps flags) t.active
on_begin t id _ = broken t

abbrev pub faulted_by : Active → Result Launch Cause → Turns → Turns
faulted_by a (Err cause) t = faulted a cause t
faulted_by a (Ok launch) t = record t { active = Some a }

-- a piece of PARAMS; an empty one ends it, and the request is refused as soon as there is a cause to
abbrev pub on_params : Site → Turns → Active → List ℕ → Turns
on_params site t a [] = if a.params_ended then t else faulted_by (record a { params_ended = true }) (launch_of site a) t
on_params site t a (byte ∷ content) =
    if a.params_ended then t
    else (if nat_lt site.limits.head (length (a.params ++ byte ∷ content)) then faulted a HeadTooLong t
    else record t { active = Some (record a { params = a.params ++ byte ∷ content }) })

abbrev pub on_stdin : Site → Turns → Active → List ℕ → Turns
on_stdin site t a [] = if a.stdin_ended then t else record t { active = Some (record a { stdin_ended = true }) }
on_stdin site t a (byte ∷ content) =
    if a.stdin_ended then t
    else (if nat_lt site.limits.body (length (a.stdin ++ byte ∷ content)) then faulted a BodyTooLong t
    else record t { active = Some (record a { stdin = a.stdin ++ byte ∷ content }) })

-- a record of the request that is active
abbrev pub on_active : Site → Turns → Active → Record → Turns
on_active site t a r =
    if r.kind == ABORT_REQUEST then aborted a t
    else (if r.kind == PARAMS then on_params site t a r.content
    else (if r.kind == STDIN then on_stdin site t a r.content else t))

abbrev pub of_active : Site → Turns → Record → Option Active → Turns
of_active site t r None = t
of_active site t r (Some a) = if a.id == r.id then on_active site t a r else t

abbrev pub values_by : Site → Turns → Option (List Field) → Turns
values_by site t None = broken t
values_by site t (Some asked) = with_due (replied GET_VALUES_RESULT (values_content site.limits asked)) t

-- a record of no request
abbrev pub on_management : Site → Turns → Record → Turns
on_management site t r = if r.kind == GET_VALUES then values_by site t (pairs_of r.content) else with_due (replied UNKNOWN_TYPE (unknown_content r.kind)) t

abbrev pub on_open : Site → Turns → Record → Turns
on_open site t r =
    if r.id == 0 then on_management site t r
    else (if r.kind == BEGIN_REQUEST then on_begin t r.id r.content else of_active site t r t.active)

-- once the connection is to be shut the records that follow are dropped
abbrev pub on_record : Site → Turns → Record → Turns
on_record site t r = if is_some t.over then t else on_open site t r

abbrev pub broken_if : Bool → Turns → Turns
broken_if bad t = if bad && not (is_some t.over) then broken t else t

abbrev pub read_by : Site → Turns → Reading → Turns
read_by site t reading = record (broken_if reading.bad (fold (on_record site) t reading.got)) { rest = reading.rest }

-- more bytes of the client
abbrev pub on_bytes : Site → Turns → List ℕ → Turns
on_bytes site t bytes = read_by site t (read_records (t.rest ++ bytes))

-- ---- the run of a child

abbrev pub run_with : Site → ℕ → ℕ → List ℕ → Run
run_with site c k body = record { conn = c; child = k; kind = Cgi; limits = site.limits; offered = λ items. record { body = body; whole = true } }

abbrev pub is_full : Cause → Bool
is_full (Full seen) = true
is_full _ = false

-- that as many children ran as may is told by END alone
abbrev pub due_by_fault : ℕ → Cause → Due
due_by_fault id cause = if is_full cause then ended id overloaded else answered id (fault_text cause)

-- what a decided run makes of its request
abbrev pub decided : Active → List ℕ → Outcome → Turns → Turns
decided a output derived t = finished a (answered a.id (text_of_answer (by_output output))) t
decided a output (failed cause) t = finished a (due_by_fault a.id cause) t
decided a output unanswered t = record t { active = None; due = t.due ++ given_up a.id ∷ [] }

abbrev pub by_child : Site → ℕ → Turns → Active → Option ℕ → Item → Turns
by_child site c t a None x = t
by_child site c t a (Some k) x =
    if decides_run (run_with site c k a.stdin) t.seen x
    then decided a (child_out (t.seen ++ x ∷ []) k) (outcome_at (run_with site c k a.stdin) x) t else t

abbrev pub by_run : Site → ℕ → Turns → Option Active → Item → Turns
by_run site c t None x = t
by_run site c t (Some a) x = by_child site c t a a.child x

-- ---- items

abbrev pub started_by : ℕ → Turns → Option Active → Turns
started_by k t None = t
started_by k t (Some a) = record t { active = Some (record a { child = Some k }); begun = t.begun ++ record { child = k; body = a.stdin } ∷ [] }

-- the client ended its input: within a request that isn't whole, or with none
abbrev pub why_ended : Option Active → Option Why
why_ended None = Some Done
why_ended (Some a) = if is_whole a then None else Some (Cut Incomplete)

-- by the child that the item starts, or by the run of the one that was started
abbrev pub by_start : Site → ℕ → Turns → Item → List ℕ → Turns
by_start site c t x [] = by_run site c t t.active x
by_start site c t x (k ∷ others) = started_by k t t.active

abbrev pub by_end : Turns → Turns
by_end t = record t { ended = true; over = or_why t.over (why_ended t.active) }

abbrev pub by_item : Site → ℕ → Turns → Item → Turns
by_item site c t x =
    if is_client_bytes c x then on_bytes site t (bytes_heard c x)
    else (if is_client_eof c x then by_end t else by_start site c t x (child_started c x))

-- ---- idleness

-- the count begins anew with Accepted, with each byte of the client, and with the item that settles a child
abbrev pub idle_step : ℕ → Turns → Item → ℕ
idle_step c t x =
    if is_accepted x || is_client_bytes c x || has_unsettled t.seen c then 0
    else (if is_tick x then t.idle + 1 else t.idle)

abbrev pub is_idle_now : Site → ℕ → Turns → Item → Bool
is_idle_now site c t x = is_tick x && list_any is_accepted t.seen && not (shut t.seen c) && idle_step c t x == site.limits.idle_ticks

-- ---- one more item

-- A run sees an item in whose records its request was ended as it sees what ends a talk: it is decided, with no answer.
abbrev pub as_seen : ℕ → Bool → Item → Item
as_seen c true x = In (WsBinary c)
as_seen c false x = x

abbrev pub after_item : Site → ℕ → Turns → Turns → Item → Turns
after_item site c t made x = record made {
  idle = idle_step c t x;
  over = if is_idle_now site c t x then or_why made.over (Some Idle) else made.over;
  seen = t.seen ++ as_seen c made.broke_off x ∷ [];
}

abbrev pub next_turns : Site → ℕ → Turns → Item → Turns
next_turns site c t x = after_item site c t (by_item site c (record t { broke_off = false }) x) x

abbrev pub turns_of : Site → ℕ → List Item → Turns
turns_of site c L = fold (next_turns site c) no_turns L
