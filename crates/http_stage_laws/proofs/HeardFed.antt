-- Bytes of the client between two steps: what was heard of the request and of its body.
use Rattle.std.proofs.Common.{◌≡◌, ◌≤◌, ℕ, zero, suc, Bool, true, false, ◌||◌, List, ◌++◌, length, Option, Some, None, if◌then◌else◌, refl, sym, ap, ◌∙◌, subst}
use Rattle.std.proofs.lemmas.Bool.{eq-eqb, false≢true}
use Rattle.host_base.specs.declared.cause.Cause.{Cause}
use Rattle.host_base.specs.declared.limits.Limits.{Limits}
use Rattle.host_base.specs.declared.request.Request.{Request}
use Rattle.host_trace.specs.declared.items.Event.{Event}
use Rattle.host_trace.specs.declared.items.Event.TheVariants.{ClientBytes}
use Rattle.host_trace.specs.declared.items.Item.{Item}
use Rattle.host_trace.specs.declared.items.Item.TheVariants.{In}
use Rattle.host_trace.specs.Projections.{client_wanted}
use Rattle.own_traces.specs.OwnFits.{fits_own}
use Rattle.child_core.specs.View.{View}
use Rattle.conn_flags.specs.View.{is_live}
use Rattle.trace_model.specs.Exchange.{Exchange, pushed, request_bytes}
use Rattle.trace_model.specs.Legs.{Leg as Started}
use Rattle.exchange_request.specs.declared.incoming.Incoming.{Incoming}
use Rattle.exchange_request.specs.Knows.{KnowsRequest, is_looked_at, is_ready, is_taken, limits_of}
use Rattle.exchange_stage.specs.declared.stage.Stage.{Stage}
use Rattle.exchange_stage.specs.declared.stage.Stage.TheVariants as At
use Rattle.exchange_laws.specs.Bodies.{HasBody, body_heard}
use Rattle.exchange_laws.specs.Items.{noted_by}
use Rattle.exchange_laws.specs.Rules.{Rests}
use Rattle.exchange_laws.specs.StageIs.{StageIs}
use Rattle.child_laws.specs.Heard.{last_hop, offered_by, run_heard}
use Rattle.http_conn.specs.HttpConn.{HttpConn}
use Rattle.http_conn.specs.Hears.{heard_run}
use Rattle.http_conn.specs.Kept.{is_reading, flags_of, number_of, site_of}
use Rattle.http_conn.specs.Moves.{grown_stage}
use Rattle.http_stage_laws.specs.HeardStages.{AtRest, HeardWell, Rested, SameAs}
use Rattle.http_stage_laws.proofs.HeardBytes.{all_bytes, offered_none, same_body}
use Rattle.http_stage_laws.proofs.HeardQuiet.{body_by, handed_by, passes, stage_kept, staged_by}
use Rattle.http_stage_laws.proofs.HeardReply.{apart_then, more_after, output_kept, written_then}
use Rattle.http_stage_laws.proofs.HeardRest.{asked_unended, unclosed}
use Rattle.http_stage_laws.proofs.HeardStage.{noted_still}

-- what was heard of the request
pub record Fed (bytes : List ℕ) (old : Incoming) (new : Incoming) : Type 0 where
  pub limits : limits_of new ≡ limits_of old
  pub ready : is_ready new ≡ is_ready old
  pub taken_is : is_taken new ≡ is_taken old
  pub looked : is_looked_at new ≡ false
  pub knows : (heard : List ℕ) (taken : ℕ) → KnowsRequest old heard taken → 2 ≤ (limits_of old).head → KnowsRequest new (heard ++ bytes) taken

-- ---- words

-- its script waits for its turn at the first hop
abbrev pub is_waiting : Stage → Bool
is_waiting (At.Unstarted zero request) = true
is_waiting _ = false

pub grown_same : (body : List ℕ) (s : Stage) → is_waiting s ≡ false → grown_stage body s ≡ s
grown_same body (At.Unstarted zero request) other = absurd (false≢true (sym other))
grown_same body (At.Unstarted (suc hop) request) other = refl
grown_same body _ other = refl

pub grown_reading : (body : List ℕ) (s : Stage) → is_reading (grown_stage body s) ≡ is_reading s
grown_reading body (At.Unstarted (suc hop) request) = refl
grown_reading body _ = refl

module _ (old : HttpConn) (L : List Item) (e : Exchange) (legs : List Started) (next : ℕ) (bytes : List ℕ) (rest : AtRest old L e legs next)
    (fits : fits_own (site_of old).limits.children L (ClientBytes (number_of old) bytes) ≡ true) (found : old.lost ≡ false) (rested : Rested old e legs)
    (live : is_live (flags_of old) ≡ true) (asked : client_wanted L (number_of old) ≡ true) (request : Incoming) (fed : Fed bytes old.request request) where
  abbrev pub ev : Event
  ev = ClientBytes (number_of old) bytes

  abbrev pub with_bytes : List ℕ
  with_bytes = request_bytes (number_of old) e ++ bytes

  pub unlooked : Bool → StageIs (site_of old) (number_of old) (pushed e (In ev)) legs old.continued false (old.closing || old.closes) (more_after old L e legs next ev rest fits rested old.run) old.stage
  unlooked b =
      subst (λ (s : Stage). StageIs (site_of old) (number_of old) (pushed e (In ev)) legs old.continued false (old.closing || old.closes) (more_after old L e legs next ev rest fits rested old.run) s)
      (noted_still (In ev) refl old.stage)
      (stage_kept old L e legs next ev rest fits rested false
      (passes old L e legs next ev rest fits rested false (λ none. refl) (λ seen. absurd (false≢true seen)) (λ some. rested.let_on)
      (λ ended. absurd (asked_unended old L e legs next rest asked ended))))

  pub limits_are : limits_of request ≡ (site_of old).limits
  limits_are = fed.limits ∙ rest.front.limits

  -- a request that was found ready knows what came
  pub knows_then : is_ready old.request ≡ true → KnowsRequest request with_bytes (length (body_heard (site_of old) (number_of old) e))
  knows_then ready =
      fed.knows (request_bytes (number_of old) e) (length (body_heard (site_of old) (number_of old) e)) (rested.heard.handed ready)
      (subst (λ (l : Limits). 2 ≤ l.head) (sym rest.front.limits) rest.two)

  pub never_broken : (cause : Cause) → old.stage ≡ At.Interrupted cause → ⊥
  never_broken cause at = subst (λ (s : Stage). Rests (site_of old) (number_of old) e legs (is_looked_at old.request) rested.staged.more s) at rested.rests

  pub same_run : (run : Option View) → heard_run ev true run ≡ run
  same_run None = refl
  same_run (Some v) = refl

  pub run_by : (run run' : Option View) → old.run ≡ run → ((v : View) → run ≡ Some v → run' ≡ Some (offered_by (site_of old) (number_of old) e (last_hop legs) (In ev) v)) → (run ≡ None → run' ≡ None)
      → run' ≡ run_heard (site_of old) (number_of old) e legs true ev run
  run_by None run' is some none = none refl
  run_by (Some v) run' is some none =
      some v refl
      ∙ ap (λ (b : Bool). Some (if b then offered_by (site_of old) (number_of old) e (last_hop legs) (In ev) v else v)) (sym (eq-eqb (number_of old) (number_of old) refl))

  -- ---- nothing of a body is awaited

  pub unoffered : (mid : HttpConn) → SameAs old mid → mid.request ≡ request → mid.stage ≡ old.stage → mid.run ≡ heard_run ev true old.run
      → (is_reading old.stage ≡ false → is_taken old.request ≡ true) → HeardWell old mid e ev legs
  unoffered mid same at_request stage run whole =
      let noted : mid.stage ≡ noted_by (In ev) old.stage = stage ∙ sym (noted_still (In ev) refl old.stage) in
      let heard : mid.run ≡ run_heard (site_of old) (number_of old) e legs true ev old.run =
      run_by old.run mid.run refl (λ v is. run ∙ (same_run old.run ∙ (is ∙ ap (λ (w : View). Some w) (sym (offered_none old L e legs next bytes rest found rested live v is whole (last_hop legs) refl)))))
      (λ none. run ∙ (same_run old.run ∙ none)) in
      record {
        staged =
            staged_by old mid (pushed e (In ev)) legs (more_after old L e legs next ev rest fits rested old.run) old.stage same
            (λ keeps. output_kept old L e legs next ev rest fits rested old.run refl mid.run heard keeps) stage
            (subst (λ (b : Bool). StageIs (site_of old) (number_of old) (pushed e (In ev)) legs old.continued b (old.closing || old.closes) (more_after old L e legs next ev rest fits rested old.run) old.stage)
            (sym fed.looked ∙ sym (ap is_looked_at at_request)) (unlooked true));
        run = heard;
        heard = record {
          bodies = λ hop r at. body_by old mid (pushed e (In ev)) hop r same (bodies hop r (sym stage ∙ at));
          looked = λ other. ap (λ (i : Incoming). is_looked_at i || is_taken i) at_request
              ∙ (ap (λ (b : Bool). is_looked_at request || b) (fed.taken_is ∙ whole (sym (ap is_reading stage) ∙ other)) ∙ or_true (is_looked_at request));
          handed = λ ready. handed_by old mid (pushed e (In ev)) same
              (subst (λ (i : Incoming). KnowsRequest i (request_bytes (number_of old) (pushed e (In ev))) (length (body_heard (site_of old) (number_of old) (pushed e (In ev))))) (sym at_request)
              (subst (λ (l : List ℕ). KnowsRequest request l (length (body_heard (site_of old) (number_of old) (pushed e (In ev))))) (sym (all_bytes old L e legs next bytes rest found rested live))
              (handed (sym fed.ready ∙ (sym (ap is_ready at_request) ∙ ready)))));
        };
        bare = λ cause at. absurd (never_broken cause (sym stage ∙ at));
        written = λ leg at. written_then old L e legs next ev rest fits rested mid.stage noted leg at;
        apart = λ leg at ticked. apart_then old L e legs next ev rest fits rested (λ tick. absurd (false≢true tick)) mid.stage noted mid.run heard leg at ticked;
      }
    where
      or_true : (b : Bool) → (b || true) ≡ true
      or_true true = refl
      or_true false = refl

      bodies : (hop : ℕ) (r : Request) → old.stage ≡ At.Unstarted hop r → HasBody (site_of old) (number_of old) (pushed e (In ev)) hop r
      bodies zero r at = rested.heard.bodies zero r at ∙ sym (same_body old L e legs next bytes rest found rested live (ap is_reading at) (whole (ap is_reading at)))
      bodies (suc hop) r at = rested.heard.bodies (suc hop) r at

      handed : is_ready old.request ≡ true → KnowsRequest request with_bytes (length (body_heard (site_of old) (number_of old) (pushed e (In ev))))
      handed ready = go (is_reading old.stage) refl
        where
          go : (b : Bool) → is_reading old.stage ≡ b → KnowsRequest request with_bytes (length (body_heard (site_of old) (number_of old) (pushed e (In ev))))
          go true reads = absurd (false≢true (sym ((rest.front.request found (unclosed old L e legs next rest rested live)).unready reads) ∙ ready))
          go false other =
              subst (λ (l : List ℕ). KnowsRequest request with_bytes (length l)) (sym (same_body old L e legs next bytes rest found rested live other (whole other))) (knows_then ready)
