-- An event between two steps that brings no bytes of the client and breaks no request.
use Rattle.std.proofs.Common.{◌≡◌, ℕ, Bool, true, false, ◌||◌, List, [], ◌++◌, Option, Some, None, length, refl, sym, ap, ◌∙◌, subst, append-nil}
use Rattle.std.proofs.lemmas.Bool.{false≢true}
use Rattle.host_base.specs.declared.cause.Cause.{Cause}
use Rattle.host_base.specs.declared.request.Request.{Request}
use Rattle.host_base.specs.declared.site.Site.{Site}
use Rattle.host_trace.specs.declared.items.Event.{Event}
use Rattle.host_trace.specs.declared.items.Item.{Item}
use Rattle.host_trace.specs.declared.items.Item.TheVariants.{In}
use Rattle.host_trace.specs.Kinds.{bytes_heard, is_tick, output_heard}
use Rattle.own_traces.specs.OwnFits.{fits_own}
use Rattle.trace_child.specs.Words.{is_filled}
use Rattle.child_core.specs.View.{View}
use Rattle.trace_model.specs.Breaks.{breaks}
use Rattle.trace_model.specs.Demands.{client_ended}
use Rattle.trace_model.specs.Exchange.{Exchange, pushed, request_bytes}
use Rattle.trace_model.specs.Legs.{Leg as Started}
use Rattle.trace_model.specs.Readings.{body_of, headed}
use Rattle.trace_model.proofs.ExchangeLaws.{request_bytes-push}
use Rattle.request_reader.specs.Request.{Reading}
use Rattle.exchange_request.specs.declared.incoming.Incoming.{Incoming}
use Rattle.exchange_request.specs.Knows.{KnowsRequest, is_looked_at, is_ready, is_taken}
use Rattle.exchange_stage.specs.declared.stage.Stage.{Stage}
use Rattle.exchange_stage.specs.declared.stage.Stage.TheVariants as At
use Rattle.exchange_laws.specs.Bodies.{HasBody, body_heard}
use Rattle.exchange_laws.specs.Items.{Passes, noted_by}
use Rattle.exchange_laws.specs.Rules.{Rests}
use Rattle.exchange_laws.specs.StageIs.{StageIs}
use Rattle.exchange_laws.specs.Unanswered.{is_awaited}
use Rattle.exchange_laws.specs.Walked.{IsLast}
use Rattle.exchange_laws.proofs.BodyStageLaws.{bodies_are_heard}
use Rattle.exchange_laws.proofs.ItemLaws.{items_keep_stages}
use Rattle.child_laws.specs.Heard.{run_heard}
use Rattle.child_laws.proofs.NoteLaws.{reading_same}
use Rattle.http_conn.specs.HttpConn.{HttpConn}
use Rattle.http_conn.specs.Kept.{is_reading, number_of, site_of}
use Rattle.http_conn.specs.Ready.{undrained}
use Rattle.http_stage_laws.specs.HeardStages.{AtRest, HasHeard, HeardWell, Rested, SameAs}
use Rattle.http_stage_laws.specs.Staged.{Staged, drops_of}
use Rattle.http_stage_laws.proofs.HeardReply.{apart_then, more_after, output_kept, written_then}
use Rattle.http_stage_laws.proofs.HeardRest.{calm, last_child, no_run}
use Rattle.http_stage_laws.proofs.HeardStage.{drained_at_rest, noted_other, noted_reading}
use Rattle.http_stage_laws.proofs.StagedLaws.{no_last}

-- ---- the same connection later

pub staged_by : (old mid : HttpConn) (e : Exchange) (legs : List Started) (more : List ℕ) (stage : Stage) → SameAs old mid → (drops_of mid.run ≡ false → more ≡ undrained mid.run)
    → mid.stage ≡ stage → StageIs (site_of old) (number_of old) e legs old.continued (is_looked_at mid.request) (old.closing || old.closes) more stage → Staged mid e legs
staged_by old mid e legs more stage same kept at is = record {
  more = more;
  kept = kept;
  is = subst (λ (t : Site). StageIs t (number_of mid) e legs mid.continued (is_looked_at mid.request) (mid.closing || mid.closes) more mid.stage) (sym same.site)
      (subst (λ (d : ℕ). StageIs (site_of old) d e legs mid.continued (is_looked_at mid.request) (mid.closing || mid.closes) more mid.stage) (sym same.number)
      (subst (λ (b : Bool). StageIs (site_of old) (number_of old) e legs b (is_looked_at mid.request) (mid.closing || mid.closes) more mid.stage) (sym same.continued)
      (subst (λ (b : Bool). StageIs (site_of old) (number_of old) e legs old.continued (is_looked_at mid.request) (b || mid.closes) more mid.stage) (sym same.closing)
      (subst (λ (b : Bool). StageIs (site_of old) (number_of old) e legs old.continued (is_looked_at mid.request) (old.closing || b) more mid.stage) (sym same.closes)
      (subst (λ (s : Stage). StageIs (site_of old) (number_of old) e legs old.continued (is_looked_at mid.request) (old.closing || old.closes) more s) (sym at) is)))));
}

pub body_by : (old mid : HttpConn) (e : Exchange) (hop : ℕ) (request : Request) → SameAs old mid → HasBody (site_of old) (number_of old) e hop request → HasBody (site_of mid) (number_of mid) e hop request
body_by old mid e hop request same has =
    subst (λ (t : Site). HasBody t (number_of mid) e hop request) (sym same.site) (subst (λ (d : ℕ). HasBody (site_of old) d e hop request) (sym same.number) has)

pub handed_by : (old mid : HttpConn) (e : Exchange) → SameAs old mid → KnowsRequest mid.request (request_bytes (number_of old) e) (length (body_heard (site_of old) (number_of old) e))
    → KnowsRequest mid.request (request_bytes (number_of mid) e) (length (body_heard (site_of mid) (number_of mid) e))
handed_by old mid e same k =
    subst (λ (t : Site). KnowsRequest mid.request (request_bytes (number_of mid) e) (length (body_heard t (number_of mid) e))) (sym same.site)
    (subst (λ (d : ℕ). KnowsRequest mid.request (request_bytes d e) (length (body_heard (site_of old) d e))) (sym same.number) k)

module _ (old : HttpConn) (L : List Item) (e : Exchange) (legs : List Started) (next : ℕ) (ev : Event) (rest : AtRest old L e legs next)
    (fits : fits_own (site_of old).limits.children L ev ≡ true) (rested : Rested old e legs) where
  -- ---- an event passes

  more_is : (leg : Started) → IsLast (site_of old) (number_of old) e legs leg → more_after old L e legs next ev rest fits rested old.run ≡ rested.staged.more ++ output_heard leg.child (In ev)
  more_is leg last = go old.run refl
    where
      go : (run : Option View) → old.run ≡ run → more_after old L e legs next ev rest fits rested run ≡ rested.staged.more ++ output_heard leg.child (In ev)
      go None is = absurd (no_last last.before leg (sym (no_run old L e legs next rest is) ∙ last.is))
      go (Some v) is = ap (λ (k : ℕ). rested.staged.more ++ output_heard k (In ev)) (last_child old L e legs next rest v is leg last)

  pub passes : (looked_then : Bool) → (legs ≡ [] → breaks (site_of old) (number_of old) e e.items (In ev) ≡ false)
      → (looked_then ≡ true → (is_looked_at old.request ≡ true) × (bytes_heard (number_of old) (In ev) ≡ []))
      → (is_filled (bytes_heard (number_of old) (In ev)) ≡ true → old.continued ≡ false → is_awaited (site_of old) (number_of old) e ≡ false)
      → (client_ended (number_of old) e.items ≡ true → bytes_heard (number_of old) (In ev) ≡ [])
      → Passes (site_of old) (number_of old) e legs old.continued (is_looked_at old.request) rested.staged.more (In ev) looked_then (more_after old L e legs next ev rest fits rested old.run)
  passes looked_then breaks_none looked_is let_on unended = record {
    unwritten = refl;
    starts_none = refl;
    breaks_none = breaks_none;
    looked_is = looked_is;
    let_on = let_on;
    unended = unended;
    more_is = more_is;
    drained = λ leg last none comes.
        drained_at_rest (site_of old) (number_of old) e legs old.continued (is_looked_at old.request) (old.closing || old.closes) rested.staged.more old.stage
        (calm old L e legs next rest rested) rested.staged.is rested.rests leg last none;
  }

  pub stage_kept : (looked_then : Bool) → Passes (site_of old) (number_of old) e legs old.continued (is_looked_at old.request) rested.staged.more (In ev) looked_then (more_after old L e legs next ev rest fits rested old.run)
      → StageIs (site_of old) (number_of old) (pushed e (In ev)) legs old.continued looked_then (old.closing || old.closes) (more_after old L e legs next ev rest fits rested old.run) (noted_by (In ev) old.stage)
  stage_kept looked_then p =
      items_keep_stages (site_of old) (number_of old) e legs old.continued (is_looked_at old.request) (old.closing || old.closes) rested.staged.more (In ev) looked_then
      (more_after old L e legs next ev rest fits rested old.run) old.stage rest.two (calm old L e legs next rest rested) rested.staged.is p

  -- ---- .. that brings no bytes

  module _ (quiet : bytes_heard (number_of old) (In ev) ≡ []) where
    pub quiet_passes : (legs ≡ [] → breaks (site_of old) (number_of old) e e.items (In ev) ≡ false)
        → Passes (site_of old) (number_of old) e legs old.continued (is_looked_at old.request) rested.staged.more (In ev) (is_looked_at old.request) (more_after old L e legs next ev rest fits rested old.run)
    quiet_passes unbroken =
        passes (is_looked_at old.request) unbroken (λ seen. (seen, quiet)) (λ some. absurd (false≢true (sym (ap is_filled quiet) ∙ some))) (λ ended. quiet)

    same_bytes : request_bytes (number_of old) (pushed e (In ev)) ≡ request_bytes (number_of old) e
    same_bytes = request_bytes-push (number_of old) e (In ev) ∙ (ap (λ (l : List ℕ). request_bytes (number_of old) e ++ l) quiet ∙ append-nil (request_bytes (number_of old) e))

    same_body : body_heard (site_of old) (number_of old) (pushed e (In ev)) ≡ body_heard (site_of old) (number_of old) e
    same_body = ap (λ (r : Reading). body_of (headed r)) (reading_same (site_of old) (number_of old) e (In ev) quiet)

    -- where the stage may be another, at which no script waits that didn't
    pub quiet_heard : (mid : HttpConn) → SameAs old mid → mid.request ≡ old.request
        → ((hop : ℕ) (request : Request) → mid.stage ≡ At.Unstarted hop request → old.stage ≡ At.Unstarted hop request)
        → (is_reading mid.stage ≡ false → (is_looked_at old.request || is_taken old.request) ≡ true) → HasHeard mid (pushed e (In ev))
    quiet_heard mid same request waits looked = record {
      bodies = λ hop r at.
          body_by old mid (pushed e (In ev)) hop r same
          ((bodies_are_heard (site_of old) (number_of old) e (In ev) r).quiet hop quiet (rested.heard.bodies hop r (waits hop r at)));
      looked = λ other. ap (λ (i : Incoming). is_looked_at i || is_taken i) request ∙ looked other;
      handed = λ ready.
          handed_by old mid (pushed e (In ev)) same
          (subst (λ (l : List ℕ). KnowsRequest mid.request l (length (body_heard (site_of old) (number_of old) (pushed e (In ev))))) (sym same_bytes)
          (subst (λ (l : List ℕ). KnowsRequest mid.request (request_bytes (number_of old) e) (length l)) (sym same_body)
          (subst (λ (i : Incoming). KnowsRequest i (request_bytes (number_of old) e) (length (body_heard (site_of old) (number_of old) e))) (sym request)
          (rested.heard.handed (ap is_ready (sym request) ∙ ready)))));
    }

    pub quiet_well : (mid : HttpConn) → SameAs old mid → mid.request ≡ old.request → mid.stage ≡ noted_by (In ev) old.stage
        → mid.run ≡ run_heard (site_of old) (number_of old) e legs true ev old.run → (legs ≡ [] → breaks (site_of old) (number_of old) e e.items (In ev) ≡ false)
        → (is_tick (In ev) ≡ true → (k : ℕ) → output_heard k (In ev) ≡ []) → HeardWell old mid e ev legs
    quiet_well mid same request stage run unbroken silent = record {
      staged =
          staged_by old mid (pushed e (In ev)) legs (more_after old L e legs next ev rest fits rested old.run) (noted_by (In ev) old.stage) same
          (λ keeps. output_kept old L e legs next ev rest fits rested old.run refl mid.run run keeps) stage
          (subst (λ (i : Incoming). StageIs (site_of old) (number_of old) (pushed e (In ev)) legs old.continued (is_looked_at i) (old.closing || old.closes) (more_after old L e legs next ev rest fits rested old.run) (noted_by (In ev) old.stage)) (sym request)
          (stage_kept (is_looked_at old.request) (quiet_passes unbroken)));
      run = run;
      heard = quiet_heard mid same request (λ hop r at. noted_other (In ev) old.stage (At.Unstarted hop r) refl (sym stage ∙ at))
          (λ other. rested.heard.looked (sym (noted_reading (In ev) old.stage) ∙ (sym (ap is_reading stage) ∙ other)));
      bare = λ cause at. absurd (never cause (noted_other (In ev) old.stage (At.Interrupted cause) refl (sym stage ∙ at)));
      written = λ leg at. written_then old L e legs next ev rest fits rested mid.stage stage leg at;
      apart = λ leg at ticked. apart_then old L e legs next ev rest fits rested silent mid.stage stage mid.run run leg at ticked;
    }
      where
        never : (cause : Cause) → old.stage ≡ At.Interrupted cause → ⊥
        never cause at = subst (λ (s : Stage). Rests (site_of old) (number_of old) e legs (is_looked_at old.request) rested.staged.more s) at rested.rests
