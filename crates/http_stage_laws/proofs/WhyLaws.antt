-- Why a connection is shut.
use Rattle.std.proofs.Common.{◌≡◌, ◌≤◌, Bool, true, false, ◌&&◌, ◌||◌, not, if◌then◌else◌, List, Option, Some, None, is_some, refl, sym, ap, ◌∙◌}
use Rattle.std.specs.List.{list_any}
use Rattle.host_base.specs.declared.cause.Cause.{Cause}
use Rattle.host_trace.specs.declared.items.Why.{Why}
use Rattle.host_trace.specs.declared.items.Why.TheVariants.{Done, Gone, Idle, NoMemory, Stopped}
use Rattle.host_trace.specs.Kinds.{is_accepted, is_no_room}
use Rattle.host_trace.specs.Projections.{shut, stopped}
use Rattle.request_reader.specs.Request.{is_begun}
use Rattle.trace_model.specs.Answer.{answer}
use Rattle.trace_model.specs.Breaks.{idled}
use Rattle.trace_model.specs.Demands.{client_ended}
use Rattle.trace_model.specs.Exchange.{Exchange, all_of, request_bytes}
use Rattle.trace_model.specs.Legs.{Leg as Started}
use Rattle.trace_model.specs.Shuts.{cut_cause, is_done, is_gone, or_why, why_due, why_of_cut}
use Rattle.exchange_request.specs.Knows.{is_looked_at}
use Rattle.exchange_stage.specs.declared.stage.Stage.{Stage}
use Rattle.exchange_stage.specs.declared.stage.Stage.TheVariants as At
use Rattle.exchange_laws.specs.Asks.{ReasonsAre, is_reading as reads}
use Rattle.exchange_laws.proofs.ReasonLaws.{reasons_are_staged}
use Rattle.conn_laws.proofs.FormLaws.{flags_say}
use Rattle.http_conn.specs.HttpConn.{HttpConn}
use Rattle.http_conn.specs.Kept.{is_reading, flags_of, number_of, site_of}
use Rattle.http_conn.specs.Reasons.{is_done_with, or_cut, why_of}
use Rattle.http_stage_laws.specs.Staged.{MayShut}
use Rattle.http_stage_laws.proofs.EndLaws.{left_true}

same_reading : (s : Stage) → reads s ≡ is_reading s
same_reading At.Reading = refl
same_reading _ = refl

same_cut : (cut : Option Cause) (other : Option Why) → or_why (why_of_cut cut) other ≡ or_cut cut other
same_cut None other = refl
same_cut (Some cause) other = refl

three : (a b c : Bool) → ((a || b) || c) ≡ (a || b || c)
three true b c = refl
three false true c = refl
three false false c = refl

-- the last reasons, by the idle time and by whether it is done
abbrev later : Bool → Bool → Option Why
later idle done = if idle then Some Idle else (if done then Some Done else None)

pub whys_due : (conn : HttpConn) (e : Exchange) (legs : List Started) → 2 ≤ (site_of conn).limits.head → MayShut conn e legs
    → why_due (site_of conn) (number_of conn) e ≡ why_of conn (is_done_with conn (request_bytes (number_of conn) e))
whys_due conn e legs two may =
    let says = flags_say (flags_of conn) (all_of e) may.flags in
    let accepted : list_any is_accepted (all_of e) ≡ true =
    left_true (list_any is_accepted (all_of e)) (not (shut (all_of e) (number_of conn))) (sym says.live ∙ may.live) in
    let r : ReasonsAre (site_of conn) (number_of conn) e legs (conn.closing || conn.closes) conn.stage =
    reasons_are_staged (site_of conn) (number_of conn) e legs conn.continued (is_looked_at conn.request) (conn.closing || conn.closes) may.staged.more conn.stage two may.staged.is may.rests in
    let ended : (client_ended (number_of conn) (all_of e) && reads conn.stage && not (is_begun (request_bytes (number_of conn) e))) ≡ is_done_with conn (request_bytes (number_of conn) e) =
    ap (λ (b : Bool). b && reads conn.stage && not (is_begun (request_bytes (number_of conn) e))) (sym says.ended)
    ∙ ap (λ (b : Bool). (flags_of conn).ended && b && not (is_begun (request_bytes (number_of conn) e))) (same_reading conn.stage) in
    let done : is_done (site_of conn) (number_of conn) e ≡ (conn.closing || conn.closes || is_done_with conn (request_bytes (number_of conn) e)) =
    r.done ∙ (ap (λ (b : Bool). (conn.closing || conn.closes) || b) ended ∙ three conn.closing conn.closes (is_done_with conn (request_bytes (number_of conn) e))) in
    let cut : or_why (why_of_cut (cut_cause (answer (site_of conn) (number_of conn) e))) (later (is_some (idled (site_of conn) (number_of conn) e)) (is_done (site_of conn) (number_of conn) e))
    ≡ or_cut conn.cut (later conn.idled (conn.closing || conn.closes || is_done_with conn (request_bytes (number_of conn) e))) =
    ap (λ (c : Option Cause). or_why (why_of_cut c) (later (is_some (idled (site_of conn) (number_of conn) e)) (is_done (site_of conn) (number_of conn) e))) (sym may.cut_is)
    ∙ (same_cut conn.cut (later (is_some (idled (site_of conn) (number_of conn) e)) (is_done (site_of conn) (number_of conn) e))
    ∙ (ap (λ (b : Bool). or_cut conn.cut (later b (is_done (site_of conn) (number_of conn) e))) (sym may.idled_is)
    ∙ ap (λ (b : Bool). or_cut conn.cut (later conn.idled b)) done)) in
    let rest : (if list_any (is_no_room (number_of conn)) (all_of e) then Some NoMemory
    else or_why (why_of_cut (cut_cause (answer (site_of conn) (number_of conn) e))) (later (is_some (idled (site_of conn) (number_of conn) e)) (is_done (site_of conn) (number_of conn) e)))
    ≡ or_cut conn.cut (later conn.idled (conn.closing || conn.closes || is_done_with conn (request_bytes (number_of conn) e))) =
    ap (λ (b : Bool). if b then Some NoMemory else or_why (why_of_cut (cut_cause (answer (site_of conn) (number_of conn) e))) (later (is_some (idled (site_of conn) (number_of conn) e)) (is_done (site_of conn) (number_of conn) e)))
    (sym says.no_room_then ∙ may.room) ∙ cut in
    let by_gone : (if is_gone (number_of conn) (all_of e) then Some Gone else (if list_any (is_no_room (number_of conn)) (all_of e) then Some NoMemory
    else or_why (why_of_cut (cut_cause (answer (site_of conn) (number_of conn) e))) (later (is_some (idled (site_of conn) (number_of conn) e)) (is_done (site_of conn) (number_of conn) e))))
    ≡ (if (flags_of conn).gone then Some Gone else or_cut conn.cut (later conn.idled (conn.closing || conn.closes || is_done_with conn (request_bytes (number_of conn) e)))) =
    ap (λ (b : Bool). if b then Some Gone else (if list_any (is_no_room (number_of conn)) (all_of e) then Some NoMemory
    else or_why (why_of_cut (cut_cause (answer (site_of conn) (number_of conn) e))) (later (is_some (idled (site_of conn) (number_of conn) e)) (is_done (site_of conn) (number_of conn) e)))) (sym says.gone)
    ∙ ap (λ (w : Option Why). if (flags_of conn).gone then Some Gone else w) rest in
    let by_stop : (if stopped (all_of e) then Some Stopped else (if is_gone (number_of conn) (all_of e) then Some Gone else (if list_any (is_no_room (number_of conn)) (all_of e) then Some NoMemory
    else or_why (why_of_cut (cut_cause (answer (site_of conn) (number_of conn) e))) (later (is_some (idled (site_of conn) (number_of conn) e)) (is_done (site_of conn) (number_of conn) e)))))
    ≡ (if (flags_of conn).stopped then Some Stopped else (if (flags_of conn).gone then Some Gone else or_cut conn.cut (later conn.idled (conn.closing || conn.closes || is_done_with conn (request_bytes (number_of conn) e))))) =
    ap (λ (b : Bool). if b then Some Stopped else (if is_gone (number_of conn) (all_of e) then Some Gone else (if list_any (is_no_room (number_of conn)) (all_of e) then Some NoMemory
    else or_why (why_of_cut (cut_cause (answer (site_of conn) (number_of conn) e))) (later (is_some (idled (site_of conn) (number_of conn) e)) (is_done (site_of conn) (number_of conn) e))))) (sym says.stopped_then)
    ∙ ap (λ (w : Option Why). if (flags_of conn).stopped then Some Stopped else w) by_gone in
    ap (λ (b : Bool). if not b then None else (if stopped (all_of e) then Some Stopped else (if is_gone (number_of conn) (all_of e) then Some Gone else (if list_any (is_no_room (number_of conn)) (all_of e) then Some NoMemory
    else or_why (why_of_cut (cut_cause (answer (site_of conn) (number_of conn) e))) (later (is_some (idled (site_of conn) (number_of conn) e)) (is_done (site_of conn) (number_of conn) e)))))) accepted
    ∙ (by_stop
    ∙ (ap (λ (b : Bool). if b then Some NoMemory else (if (flags_of conn).stopped then Some Stopped else (if (flags_of conn).gone then Some Gone else or_cut conn.cut (later conn.idled (conn.closing || conn.closes || is_done_with conn (request_bytes (number_of conn) e)))))) (sym may.found)
    ∙ ap (λ (b : Bool). if not b then None else (if conn.lost then Some NoMemory else (if (flags_of conn).stopped then Some Stopped else (if (flags_of conn).gone then Some Gone else or_cut conn.cut (later conn.idled (conn.closing || conn.closes || is_done_with conn (request_bytes (number_of conn) e))))))) (sym may.live)))
