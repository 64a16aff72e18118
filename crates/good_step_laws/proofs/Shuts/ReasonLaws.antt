-- The reason that there is at the end of a step, by what the connection holds.
use Rattle.std.proofs.Common.{◌≡◌, ◌≤◌, ℕ, Bool, true, false, ◌&&◌, ◌||◌, not, if◌then◌else◌, List, Option, Some, None, is_some, refl, sym, ap, ◌∙◌}
use Rattle.std.specs.List.{list_any}
use Rattle.host_base.specs.declared.cause.Cause.{Cause}
use Rattle.host_trace.specs.declared.items.Act.{Act}
use Rattle.host_trace.specs.declared.items.Event.{Event}
use Rattle.host_trace.specs.declared.items.Item.{Item}
use Rattle.host_trace.specs.declared.items.Why.{Why}
use Rattle.host_trace.specs.declared.items.Why.TheVariants.{Done, Gone, Idle, NoMemory, Stopped}
use Rattle.host_trace.specs.Kinds.{is_accepted, is_no_room}
use Rattle.host_trace.specs.Projections.{stopped}
use Rattle.request_reader.specs.Request.{is_begun}
use Rattle.trace_model.specs.Answer.{answer}
use Rattle.trace_model.specs.Breaks.{idled}
use Rattle.trace_model.specs.Demands.{client_ended}
use Rattle.trace_model.specs.Exchange.{Exchange, all_of, request_bytes}
use Rattle.trace_model.specs.Shuts.{cut_cause, is_done, is_gone, or_why, why_due, why_of_cut}
use Rattle.exchange_request.specs.Knows.{is_looked_at}
use Rattle.exchange_laws.specs.Asks.{ReasonsAre, is_reading as reads}
use Rattle.exchange_laws.proofs.ReasonLaws.{reasons_are_staged}
use Rattle.conn_laws.specs.Form.{SaysDemands}
use Rattle.conn_laws.proofs.FormLaws.{flags_say}
use Rattle.child_laws.specs.Step.{Turn}
use Rattle.http_conn.specs.HttpConn.{HttpConn}
use Rattle.http_conn.specs.Kept.{is_reading, flags_of, number_of, site_of}
use Rattle.http_conn.specs.Reasons.{is_done_with}
use Rattle.http_step_laws.specs.Standing.{Standing}
use Rattle.http_step_laws.proofs.RestWords.{rests_now}
use Rattle.http_step_laws.proofs.StageWords.{more_in, stage_is}
use Rattle.http_step_laws.proofs.WantLaws.{Done as IsDone}
use Rattle.good_step_laws.proofs.Shuts.Borrowed.{same_reading, three, why_by}
use Rattle.good_step_laws.proofs.Shuts.CutLaws.{Unfailed, cut_now}

-- the first of the reasons
abbrev due_by : Bool → Bool → Bool → Bool → Option Cause → Bool → Bool → Option Why
due_by accepted stop left full cut idle done =
    if not accepted then None
    else (if stop then Some Stopped
    else (if left then Some Gone
    else (if full then Some NoMemory else or_why (why_of_cut cut) (if idle then Some Idle else (if done then Some Done else None)))))

due_same : (stop left : Bool) (cut : Option Cause) (idle done : Bool) → due_by true stop left false cut idle done ≡ why_by true false stop left cut idle done
due_same true left cut idle done = refl
due_same false true cut idle done = refl
due_same false false None idle done = refl
due_same false false (Some cause) idle done = refl

module _ (L : List Item) (ev : Event) (acts : List Act) (turn : Turn) (e : Exchange) (conn : HttpConn) (n : ℕ) (s : Standing L ev acts turn n e conn) (d : IsDone turn e conn)
    (two : 2 ≤ (site_of conn).limits.head) where
  says : SaysDemands (flags_of conn) (all_of e)
  says = flags_say (flags_of conn) (all_of e) s.flags

  pub no_reason : (flags_of conn).accepted ≡ false → why_due (site_of conn) (number_of conn) e ≡ None
  no_reason none =
      ap (λ (b : Bool). due_by b (stopped (all_of e)) (is_gone (number_of conn) (all_of e)) (list_any (is_no_room (number_of conn)) (all_of e)) (cut_cause (answer (site_of conn) (number_of conn) e))
      (is_some (idled (site_of conn) (number_of conn) e)) (is_done (site_of conn) (number_of conn) e)) (sym s.flags.accepted ∙ none)

  module _ (accepted : (flags_of conn).accepted ≡ true) (found : conn.lost ≡ false) (room : (flags_of conn).no_room ≡ false) where
    by_flags : why_due (site_of conn) (number_of conn) e
        ≡ due_by true (flags_of conn).stopped (flags_of conn).gone false (cut_cause (answer (site_of conn) (number_of conn) e)) (is_some (idled (site_of conn) (number_of conn) e)) (is_done (site_of conn) (number_of conn) e)
    by_flags =
        ap (λ (b : Bool). due_by b (stopped (all_of e)) (is_gone (number_of conn) (all_of e)) (list_any (is_no_room (number_of conn)) (all_of e)) (cut_cause (answer (site_of conn) (number_of conn) e))
        (is_some (idled (site_of conn) (number_of conn) e)) (is_done (site_of conn) (number_of conn) e)) (sym s.flags.accepted ∙ accepted)
        ∙ (ap (λ (b : Bool). due_by true b (is_gone (number_of conn) (all_of e)) (list_any (is_no_room (number_of conn)) (all_of e)) (cut_cause (answer (site_of conn) (number_of conn) e))
        (is_some (idled (site_of conn) (number_of conn) e)) (is_done (site_of conn) (number_of conn) e)) (sym says.stopped_then)
        ∙ (ap (λ (b : Bool). due_by true (flags_of conn).stopped b (list_any (is_no_room (number_of conn)) (all_of e)) (cut_cause (answer (site_of conn) (number_of conn) e))
        (is_some (idled (site_of conn) (number_of conn) e)) (is_done (site_of conn) (number_of conn) e)) (sym says.gone)
        ∙ ap (λ (b : Bool). due_by true (flags_of conn).stopped (flags_of conn).gone b (cut_cause (answer (site_of conn) (number_of conn) e))
        (is_some (idled (site_of conn) (number_of conn) e)) (is_done (site_of conn) (number_of conn) e)) (sym says.no_room_then ∙ room)))

    reasons : ReasonsAre (site_of conn) (number_of conn) e s.legs (conn.closing || conn.closes) conn.stage
    reasons =
        reasons_are_staged (site_of conn) (number_of conn) e s.legs conn.continued (is_looked_at conn.request) (conn.closing || conn.closes) (more_in conn e s.legs (s.staged found)) conn.stage two
        (stage_is conn e s.legs (s.staged found)) (rests_now L ev acts turn e conn n s d.closed found)

    done_is : is_done (site_of conn) (number_of conn) e ≡ (conn.closing || conn.closes || is_done_with conn (request_bytes (number_of conn) e))
    done_is =
        reasons.done
        ∙ (ap (λ (b : Bool). (conn.closing || conn.closes) || b)
        (ap (λ (b : Bool). b && reads conn.stage && not (is_begun (request_bytes (number_of conn) e))) (sym says.ended)
        ∙ ap (λ (b : Bool). (flags_of conn).ended && b && not (is_begun (request_bytes (number_of conn) e))) (same_reading conn.stage))
        ∙ three conn.closing conn.closes (is_done_with conn (request_bytes (number_of conn) e)))

    abbrev held : Option Why
    held = why_by true false (flags_of conn).stopped (flags_of conn).gone conn.cut conn.idled (conn.closing || conn.closes || is_done_with conn (request_bytes (number_of conn) e))

    -- the server is to end, or the client is gone
    pub first_due : ((flags_of conn).stopped || (flags_of conn).gone) ≡ true → why_due (site_of conn) (number_of conn) e ≡ held
    first_due is = by_flags ∙ go (flags_of conn).stopped (flags_of conn).gone is
      where
        go : (stop left : Bool) → (stop || left) ≡ true
            → due_by true stop left false (cut_cause (answer (site_of conn) (number_of conn) e)) (is_some (idled (site_of conn) (number_of conn) e)) (is_done (site_of conn) (number_of conn) e)
            ≡ why_by true false stop left conn.cut conn.idled (conn.closing || conn.closes || is_done_with conn (request_bytes (number_of conn) e))
        go true left e = refl
        go false true e = refl
        go false false e = absurd (cc)

    -- .. or neither
    pub other_due : Unfailed conn → conn.idled ≡ is_some (idled (site_of conn) (number_of conn) e) → why_due (site_of conn) (number_of conn) e ≡ held
    other_due unfailed idle =
        by_flags
        ∙ (ap (λ (o : Option Cause). due_by true (flags_of conn).stopped (flags_of conn).gone false o (is_some (idled (site_of conn) (number_of conn) e)) (is_done (site_of conn) (number_of conn) e))
        (sym (cut_now L ev acts turn e conn n s d.closed.rest found unfailed reasons))
        ∙ (ap (λ (b : Bool). due_by true (flags_of conn).stopped (flags_of conn).gone false conn.cut b (is_done (site_of conn) (number_of conn) e)) (sym idle)
        ∙ (ap (λ (b : Bool). due_by true (flags_of conn).stopped (flags_of conn).gone false conn.cut conn.idled b) done_is
        ∙ due_same (flags_of conn).stopped (flags_of conn).gone conn.cut conn.idled (conn.closing || conn.closes || is_done_with conn (request_bytes (number_of conn) e)))))
