-- The end of an exchange, and acts.
use Rattle.std.proofs.Common.{◌≡◌, ◌≤◌, ℕ, Bool, true, false, ◌&&◌, ◌||◌, not, List, [], ◌∷◌, ◌++◌, Option, Some, None, refl, sym, ap, ◌∙◌, subst}
use Rattle.std.specs.List.{list_any}
use Rattle.std.proofs.lemmas.Bool.{false≢true}
use Rattle.host_base.specs.declared.launch.Launch.{Launch}
use Rattle.host_base.specs.declared.limits.Limits.{Limits}
use Rattle.host_trace.specs.declared.items.Act.TheVariants.{Start, Write}
use Rattle.host_trace.specs.declared.items.Item.TheVariants.{Out}
use Rattle.host_trace.specs.Account.{has_unsettled}
use Rattle.host_trace.specs.Kinds.{names_child}
use Rattle.request_reader.specs.Request.{read_request}
use Rattle.child_core.specs.View.{View}
use Rattle.trace_model.specs.Exchange.{Exchange, continue_text, pushed, reading, request_bytes}
use Rattle.trace_model.specs.Exchanges.{has_ended}
use Rattle.trace_model.specs.Legs.{Leg as Started}
use Rattle.trace_model.specs.Readings.{is_whole}
use Rattle.exchange_request.specs.Knows.{is_looked_at, is_taken}
use Rattle.exchange_request.proofs.KnowsLaws.{knows_whole}
use Rattle.exchange_reply.specs.StepRules.{wrote}
use Rattle.exchange_stage.specs.declared.stage.Leg.{Leg}
use Rattle.exchange_stage.specs.declared.stage.Stage.{Stage}
use Rattle.exchange_stage.specs.declared.stage.Stage.TheVariants as At
use Rattle.exchange_laws.specs.Items.{is_unanswered}
use Rattle.exchange_laws.specs.OfRun.{leg_held}
use Rattle.exchange_laws.specs.Rules.{IsUnended, is_answered as answers}
use Rattle.exchange_laws.specs.StageIs.{StageIs}
use Rattle.exchange_laws.specs.Unanswered.{is_awaited}
use Rattle.exchange_laws.proofs.GiveLaws.{starts_are_given}
use Rattle.exchange_laws.proofs.ReadLaws.{answered_are_read}
use Rattle.exchange_laws.proofs.WholeLaws.{ends_are_answered}
use Rattle.exchange_laws.proofs.WriteLaws.{continues_are_written, parts_are_written, rests_are_written}
use Rattle.child_laws.specs.Children.{KnowsChildren, is_over as is_settled_run}
use Rattle.child_laws.proofs.KnowLaws.{unsettled_exact}
use Rattle.conn_laws.specs.Moves.{HasEnded}
use Rattle.http_conn.specs.HttpConn.{HttpConn}
use Rattle.http_conn.specs.Kept.{number_of, site_of}
use Rattle.http_conn.specs.Settles.{ending_of, is_answered, is_over, stood}
use Rattle.http_conn.specs.Slot.{run_settled}
use Rattle.http_conn.specs.Writes.{continued, wrote as wrote_of}
use Rattle.http_stage_laws.specs.Staged.{MaySettle, Staged}

-- ---- words

not_not : (b : Bool) → not (not b) ≡ b
not_not true = refl
not_not false = refl

and_swap : (a b : Bool) → (a && b) ≡ (b && a)
and_swap true true = refl
and_swap true false = refl
and_swap false true = refl
and_swap false false = refl

pub left_true : (a b : Bool) → (a && b) ≡ true → a ≡ true
left_true true b e = refl
left_true false b e = e

right_true : (a b : Bool) → (a && b) ≡ true → b ≡ true
right_true true b e = e
right_true false b e = absurd (false≢true e)

right_false : (a b : Bool) → (a || b) ≡ false → b ≡ false
right_false true b e = absurd (false≢true (sym e))
right_false false b e = e

pub or_none : (a : Bool) → (a || false) ≡ a
or_none true = refl
or_none false = refl

same_settled : (run : Option View) → is_settled_run run ≡ run_settled run
same_settled None = refl
same_settled (Some v) = refl

same_answered : (s : Stage) → answers s ≡ is_answered s
same_answered At.Reading = refl
same_answered _ = refl

pub is_at_answered : (s : Stage) → is_answered s ≡ true → s ≡ At.Answered
is_at_answered At.Answered e = refl
is_at_answered _ e = absurd (false≢true e)

-- ---- the end

pub ends_taken : (conn : HttpConn) (e : Exchange) (legs : List Started) (early : Bool) (next : ℕ) → Staged conn e legs
    → KnowsChildren (site_of conn) (number_of conn) e early next legs conn.run → IsUnended (site_of conn) (number_of conn) e legs conn.stage
    → has_ended (site_of conn) (number_of conn) e ≡ is_over conn
ends_taken conn e legs early next staged children unended =
    let settled : not (has_unsettled e.items (number_of conn)) ≡ run_settled conn.run =
    ap (λ (b : Bool). not b) (unsettled_exact (site_of conn) (number_of conn) e early next legs conn.run children) ∙ (not_not (is_settled_run conn.run) ∙ same_settled conn.run) in
    ends_are_answered (site_of conn) (number_of conn) e legs conn.continued (is_looked_at conn.request) (conn.closing || conn.closes) staged.more conn.stage staged.is unended
    ∙ (ap (λ (b : Bool). b && answers conn.stage) settled
    ∙ (ap (λ (b : Bool). run_settled conn.run && b) (same_answered conn.stage) ∙ and_swap (run_settled conn.run) (is_answered conn.stage)))

pub ends_noticed : (conn : HttpConn) (e : Exchange) (legs : List Started) → 2 ≤ (site_of conn).limits.head → MaySettle conn e legs → is_over conn ≡ true
    → HasEnded (site_of conn) (number_of conn) e (ending_of conn)
ends_noticed conn e legs two may over =
    let at : conn.stage ≡ At.Answered = is_at_answered conn.stage (left_true (is_answered conn.stage) (run_settled conn.run) over) in
    let answered : StageIs (site_of conn) (number_of conn) e legs conn.continued (is_looked_at conn.request) (conn.closing || conn.closes) may.staged.more At.Answered =
    subst (λ (s : Stage). StageIs (site_of conn) (number_of conn) e legs conn.continued (is_looked_at conn.request) (conn.closing || conn.closes) may.staged.more s) at may.staged.is in
    let open_yet : conn.closing ≡ false = may.front.closing ∙ answered.unclosed in
    record {
      over = ends_taken conn e legs may.early may.next may.staged may.children (subst (λ (s : Stage). IsUnended (site_of conn) (number_of conn) e legs s) (sym at) tt) ∙ over;
      closes = sym (answered.closes_is ∙ ap (λ (b : Bool). b || conn.closes) open_yet);
      idled = may.calm;
      taken = λ found stays_open.
          let none : (conn.closing || conn.closes) ≡ false = ap (λ (b : Bool). b || conn.closes) open_yet ∙ right_false e.closed conn.closes stays_open in
          let whole : is_whole (reading (site_of conn) (number_of conn) e) ≡ true =
          answered_are_read (site_of conn) (number_of conn) e legs conn.continued (is_looked_at conn.request) may.staged.more two
          (subst (λ (b : Bool). StageIs (site_of conn) (number_of conn) e legs conn.continued (is_looked_at conn.request) b may.staged.more At.Answered) none answered) in
          read found answered.unclosed whole;
    }
  where
    read : conn.lost ≡ false → e.closed ≡ false → is_whole (reading (site_of conn) (number_of conn) e) ≡ true → is_taken conn.request ≡ true
    read found unclosed whole =
        let h = may.front.request found unclosed in
        knows_whole conn.request (request_bytes (number_of conn) e) h.taken h.knows may.looked
        ∙ (ap (λ (l : Limits). is_whole (read_request l (request_bytes (number_of conn) e))) may.front.limits ∙ whole)

-- ---- acts

pub continues_staged : (conn : HttpConn) (e : Exchange) (legs : List Started) → 2 ≤ (site_of conn).limits.head → Staged conn e legs → is_unanswered conn.stage ≡ true
    → conn.continued ≡ false → is_awaited (site_of conn) (number_of conn) e ≡ true
    → Staged (continued true conn) (pushed e (Out (Write (number_of conn) continue_text))) legs
continues_staged conn e legs two staged unanswered first awaited = record {
  more = staged.more;
  kept = staged.kept;
  is = continues_are_written (site_of conn) (number_of conn) e legs (is_looked_at conn.request) (conn.closing || conn.closes) staged.more conn.stage two unanswered
      (subst (λ (b : Bool). StageIs (site_of conn) (number_of conn) e legs b (is_looked_at conn.request) (conn.closing || conn.closes) staged.more conn.stage) first staged.is) awaited;
}

at_stage : (conn : HttpConn) (e : Exchange) (legs : List Started) (stage : Stage) → conn.stage ≡ stage → (staged : Staged conn e legs)
    → StageIs (site_of conn) (number_of conn) e legs conn.continued (is_looked_at conn.request) (conn.closing || conn.closes) staged.more stage
at_stage conn e legs stage at staged =
    subst (λ (s : Stage). StageIs (site_of conn) (number_of conn) e legs conn.continued (is_looked_at conn.request) (conn.closing || conn.closes) staged.more s) at staged.is

pub parts_staged : (conn : HttpConn) (e : Exchange) (legs : List Started) (leg : Leg) → 2 ≤ (site_of conn).limits.head → Staged conn e legs → conn.stage ≡ At.Running leg
    → Staged (record (wrote_of leg.text true conn) { stage = At.Running (record leg { text = [] }) }) (wrote (number_of conn) e leg.text) legs
parts_staged conn e legs leg two staged at =
    let stage : StageIs (site_of conn) (number_of conn) (wrote (number_of conn) e leg.text) legs conn.continued (is_looked_at conn.request) (conn.closing || conn.closes) staged.more (At.Running (record leg { text = [] })) =
    parts_are_written (site_of conn) (number_of conn) e legs conn.continued (is_looked_at conn.request) (conn.closing || conn.closes) staged.more leg two (at_stage conn e legs (At.Running leg) at staged) in
    go leg.text (wrote (number_of conn) e leg.text) stage
  where
    go : (text : List ℕ) (after : Exchange)
        → StageIs (site_of conn) (number_of conn) after legs conn.continued (is_looked_at conn.request) (conn.closing || conn.closes) staged.more (At.Running (record leg { text = [] }))
        → Staged (record (wrote_of text true conn) { stage = At.Running (record leg { text = [] }) }) after legs
    go [] after s = record { more = staged.more; kept = staged.kept; is = s }
    go (byte ∷ text) after s = record { more = staged.more; kept = staged.kept; is = s }

pub rests_staged : (conn : HttpConn) (e : Exchange) (legs : List Started) (text : List ℕ) (closes : Bool) → 2 ≤ (site_of conn).limits.head → Staged conn e legs
    → conn.stage ≡ At.Finishing text closes → conn.closes ≡ false → Staged (stood closes (wrote_of text true conn)) (wrote (number_of conn) e text) legs
rests_staged conn e legs text closes two staged at none =
    let stage : StageIs (site_of conn) (number_of conn) (wrote (number_of conn) e text) legs conn.continued (is_looked_at conn.request) ((conn.closing || conn.closes) || closes) staged.more At.Answered =
    rests_are_written (site_of conn) (number_of conn) e legs conn.continued (is_looked_at conn.request) (conn.closing || conn.closes) staged.more text closes two (at_stage conn e legs (At.Finishing text closes) at staged) in
    let same : ((conn.closing || conn.closes) || closes) ≡ (conn.closing || closes) = ap (λ (b : Bool). b || closes) (ap (λ (b : Bool). conn.closing || b) none ∙ or_none conn.closing) in
    go text (wrote (number_of conn) e text)
    (subst (λ (b : Bool). StageIs (site_of conn) (number_of conn) (wrote (number_of conn) e text) legs conn.continued (is_looked_at conn.request) b staged.more At.Answered) same stage)
  where
    go : (bytes : List ℕ) (after : Exchange)
        → StageIs (site_of conn) (number_of conn) after legs conn.continued (is_looked_at conn.request) (conn.closing || closes) staged.more At.Answered
        → Staged (stood closes (wrote_of bytes true conn)) after legs
    go [] after s = record { more = staged.more; kept = staged.kept; is = s }
    go (byte ∷ bytes) after s = record { more = staged.more; kept = staged.kept; is = s }

pub starts_staged : (conn : HttpConn) (e : Exchange) (legs : List Started) (leg : Leg) (launch : Launch) (body : List ℕ) (whole : Bool) (v : View) → 2 ≤ (site_of conn).limits.head
    → Staged conn e legs → conn.stage ≡ At.Starting leg launch body whole → list_any (names_child v.number) e.items ≡ false → v.output ≡ []
    → Staged (record conn { run = Some v; stage = At.Running leg }) (pushed e (Out (Start v.number (number_of conn) e.number leg.hop launch))) (legs ++ leg_held leg v.number ∷ [])
starts_staged conn e legs leg launch body whole v two staged at unnamed none = record {
  more = [];
  kept = λ keeps. sym none;
  is = starts_are_given (site_of conn) (number_of conn) e legs conn.continued (is_looked_at conn.request) (conn.closing || conn.closes) staged.more leg launch body whole v.number two
      (at_stage conn e legs (At.Starting leg launch body whole) at staged) unnamed;
}
