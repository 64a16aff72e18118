-- After Stop a connection is shut.
use Rattle.std.proofs.Common.{◌≡◌, ◌≤◌, ℕ, Bool, true, false, not, List, [], ◌∷◌, ◌++◌, Option, refl, sym, ap, ◌∙◌, subst}
use Rattle.std.proofs.lemmas.Bool.{false≢true, false_from_ne_true}
use Rattle.host_trace.specs.declared.items.Act.{Act}
use Rattle.host_trace.specs.declared.items.Event.{Event}
use Rattle.host_trace.specs.declared.items.Item.{Item}
use Rattle.host_trace.specs.declared.items.Item.TheVariants.{In}
use Rattle.host_trace.specs.Projections.{last_secs, stopped}
use Rattle.host_trace.specs.Trace.{step_of}
use Rattle.trace_child.specs.Words.{implies}
use Rattle.trace_model.specs.Demands.{is_live as live_then}
use Rattle.trace_model.specs.Exchange.{Exchange, all_of, request_bytes}
use Rattle.trace_model.specs.Steps.{goes_on}
use Rattle.trace_model.specs.Stops.{stops}
use Rattle.conn_laws.specs.Form.{SaysDemands}
use Rattle.conn_laws.proofs.FormLaws.{flags_say}
use Rattle.conn_flags.specs.View.{is_live}
use Rattle.conn_flags.specs.Form.{are_given}
use Rattle.child_laws.specs.Step.{Turn, waiting}
use Rattle.conn_laws.specs.Moves.{Move, acts_of, moved}
use Rattle.http_conn.specs.HttpConn.{HttpConn}
use Rattle.http_conn.specs.Kept.{flags_of, number_of, site_of}
use Rattle.http_conn.specs.Reasons.{is_done_with}
use Rattle.http_conn.specs.Parts.{Steps}
use Rattle.http_step_laws.specs.Standing.{Apt, Leaves, Standing}
use Rattle.http_step_laws.proofs.CloseLaws.{Closed}
use Rattle.http_step_laws.proofs.EndWords.{going}
use Rattle.http_step_laws.proofs.WantLaws.{Done, steps_leave}
use Rattle.good_step_laws.proofs.Shuts.Borrowed.{last_is, number}

-- at the end of a step nothing ends a live connection
stops_then : (L : List Item) (ev : Event) (acts : List Act) (turn : Turn) (e : Exchange) (conn : HttpConn) (n : ℕ) → Standing L ev acts turn n e conn → Closed turn e conn → stops (number_of conn) e ≡ true
stops_then L ev acts turn e conn n s closed = go (flags_of conn).stopped refl
  where
    says : SaysDemands (flags_of conn) (all_of e)
    says = flags_say (flags_of conn) (all_of e) s.flags

    dead : (flags_of conn).stopped ≡ true → live_then (number_of conn) (all_of e) ≡ false
    dead is = sym says.live ∙ false_from_ne_true (is_live (flags_of conn)) (λ live.
        false≢true (sym (going conn (is_done_with conn (request_bytes (number_of conn) e)) (closed.on live)).unstopped ∙ is))

    go : (b : Bool) → (flags_of conn).stopped ≡ b → stops (number_of conn) e ≡ true
    go false is = ap (λ (b : Bool). implies b (not (live_then (number_of conn) (all_of e)))) (sym says.stopped_then ∙ is)
    go true is =
        ap (λ (b : Bool). implies b (not (live_then (number_of conn) (all_of e)))) (sym says.stopped_then ∙ is) ∙ ap not (dead is)

pub steps_end_at_stop : (L : List Item) (ev : Event) (e : Exchange) (old new : HttpConn) (n : ℕ) (moves : List Move) (stamp : Option ℕ) → Standing L ev [] waiting n e old
    → 2 ≤ (site_of old).limits.head → stamp ≡ last_secs (L ++ In ev ∷ []) → Apt e old → Steps stamp old n moves new → are_given (flags_of old) (acts_of moves) ≡ true
    → stops (number_of old) (goes_on (site_of old) (number_of old) (step_of L ev (acts_of moves))) ≡ true
steps_end_at_stop L ev e old new n moves stamp s two clock apt w form =
    let l : Leaves Done L ev [] e old n moves new = steps_leave L ev e old new n moves stamp s two clock apt w form in
    ap (λ (d : Exchange). stops (number_of old) d) (last_is L ev e old new n moves l)
    ∙ subst (λ (k : ℕ). stops k (moved (site_of old) (number_of old) e moves) ≡ true) (number L ev e old new n moves l)
    (stops_then L ev (acts_of moves) l.turn (moved (site_of old) (number_of old) e moves) new _ l.standing l.post.closed)
