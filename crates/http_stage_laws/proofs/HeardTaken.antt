-- Bytes of the client between two steps, that are more of a body.
use Rattle.std.proofs.Common.{◌≡◌, ◌≤◌, ℕ, zero, suc, ◌+◌, ◌==◌, Bool, true, false, ◌&&◌, ◌||◌, not, List, ◌++◌, length, drop, Option, Some, None, is_some, refl, sym, ap, ◌∙◌, subst}
use Rattle.std.proofs.lemmas.Bool.{false≢true}
use Rattle.host_base.specs.declared.cause.Cause.{Cause}
use Rattle.host_base.specs.declared.limits.Limits.{Limits}
use Rattle.host_base.specs.declared.request.Request.{Request}
use Rattle.host_trace.specs.declared.items.Event.{Event}
use Rattle.host_trace.specs.declared.items.Event.TheVariants.{ClientBytes}
use Rattle.host_trace.specs.declared.items.Item.{Item}
use Rattle.host_trace.specs.declared.items.Item.TheVariants.{In}
use Rattle.host_trace.specs.Projections.{client_wanted}
use Rattle.own_traces.specs.OwnFits.{fits_own}
use Rattle.child_core.specs.Calls.{offered}
use Rattle.child_core.specs.View.{View}
use Rattle.conn_flags.specs.View.{is_live}
use Rattle.trace_model.specs.Exchange.{Exchange, pushed, reading, request_bytes}
use Rattle.trace_model.specs.Legs.{Leg as Started, offered_at}
use Rattle.trace_model.specs.Readings.{body_of, headed, is_whole}
use Rattle.request_reader.specs.Request.{read_request, with_body}
use Rattle.exchange_request.specs.declared.incoming.Incoming.{Incoming}
use Rattle.exchange_request.specs.Knows.{HandsOut, KnowsRequest, is_looked_at, is_taken, limits_of, reading_of}
use Rattle.exchange_request.proofs.KnowsLaws.{knows_whole}
use Rattle.exchange_stage.specs.declared.stage.Leg.{Leg}
use Rattle.exchange_stage.specs.declared.stage.Stage.{Stage}
use Rattle.exchange_stage.specs.declared.stage.Stage.TheVariants as At
use Rattle.exchange_laws.specs.Bodies.{HasBody, body_heard}
use Rattle.exchange_laws.specs.Items.{noted_by}
use Rattle.exchange_laws.specs.OfRun.{leg_held}
use Rattle.exchange_laws.specs.StageIs.{StageIs}
use Rattle.exchange_laws.proofs.BodyStageLaws.{bodies_are_heard, bodies_may_grow}
use Rattle.child_laws.specs.Heard.{body_more, last_hop, offered_by, run_heard}
use Rattle.child_laws.proofs.SpentLaws.{offered_spent}
use Rattle.http_conn.specs.HttpConn.{HttpConn}
use Rattle.http_conn.specs.Hears.{heard_run, offered_run, takes_body}
use Rattle.http_conn.specs.Kept.{is_reading, flags_of, number_of, site_of}
use Rattle.http_conn.specs.Moves.{grown_stage}
use Rattle.http_stage_laws.specs.HeardStages.{AtRest, HeardWell, Rested, SameAs}
use Rattle.http_stage_laws.proofs.HeardBytes.{all_bytes, all_handed, ready_now, taken_now, taken_within}
use Rattle.http_stage_laws.proofs.HeardEnd.{not_first, running_hop, spent_view}
use Rattle.http_stage_laws.proofs.HeardFed.{Fed, grown_reading, knows_then, limits_are, never_broken, run_by, same_run, unlooked}
use Rattle.http_stage_laws.proofs.HeardQuiet.{body_by, handed_by, staged_by}
use Rattle.http_stage_laws.proofs.HeardReply.{apart_then, more_after, output_kept, written_then}
use Rattle.http_stage_laws.proofs.HeardRest.{at_stage, run_decided, tells}
use Rattle.http_stage_laws.proofs.HeardStage.{is_running, looked_any, noted_still}

-- ---- words

grown_running : (body : List ℕ) (s : Stage) (leg : Leg) → grown_stage body s ≡ At.Running leg → s ≡ At.Running leg
grown_running body (At.Unstarted zero request) leg is = absurd (false≢true (ap is_running is))
grown_running body (At.Unstarted (suc hop) request) leg is = is
grown_running body _ leg is = is

abbrev is_interrupted : Stage → Bool
is_interrupted (At.Interrupted cause) = true
is_interrupted _ = false

grown_interrupted : (body : List ℕ) (s : Stage) (cause : Cause) → grown_stage body s ≡ At.Interrupted cause → s ≡ At.Interrupted cause
grown_interrupted body (At.Unstarted zero request) cause is = absurd (false≢true (ap is_interrupted is))
grown_interrupted body (At.Unstarted (suc hop) request) cause is = is
grown_interrupted body _ cause is = is

unwaiting : (s : Stage) → is_running s ≡ true → is_reading s ≡ false
unwaiting At.Reading r = absurd (false≢true r)
unwaiting _ r = refl

-- no run takes a body at another stage
takes_none : (s : Stage) (run : Option View) (body : List ℕ) (whole : Bool) → is_running s ≡ false → offered_run (takes_body s run) body whole run ≡ run
takes_none (At.Running held) run body whole r = absurd (false≢true (sym r))
takes_none _ run body whole r = refl

-- the two requests of a script that waits
waits_same : (hop hop' : ℕ) (a b : Request) → At.Unstarted hop a ≡ At.Unstarted hop' b → (hop ≡ hop') × (a ≡ b)
waits_same hop hop' a b is = (cc, cc)

module _ (old : HttpConn) (L : List Item) (e : Exchange) (legs : List Started) (next : ℕ) (bytes : List ℕ) (rest : AtRest old L e legs next)
    (fits : fits_own (site_of old).limits.children L (ClientBytes (number_of old) bytes) ≡ true) (found : old.lost ≡ false) (rested : Rested old e legs)
    (live : is_live (flags_of old) ≡ true) (asked : client_wanted L (number_of old) ≡ true) (fed : Incoming) (heard : Fed bytes old.request fed)
    (request : Incoming) (body : List ℕ) (limits : limits_of request ≡ limits_of fed)
    (hands : (all : List ℕ) (taken : ℕ) → KnowsRequest fed all taken → HandsOut request all taken body) (other : is_reading old.stage ≡ false) (open_yet : is_taken old.request ≡ false) where
  abbrev ev : Event
  ev = ClientBytes (number_of old) bytes

  abbrev now : Exchange
  now = pushed e (In ev)

  out : HandsOut request (request_bytes (number_of old) e ++ bytes) (length (body_heard (site_of old) (number_of old) e)) body
  out =
      hands (request_bytes (number_of old) e ++ bytes) (length (body_heard (site_of old) (number_of old) e))
      (knows_then old L e legs next bytes rest fits found rested live asked fed heard (ready_now old L e legs next bytes rest found rested live other))

  limits_then : limits_of request ≡ (site_of old).limits
  limits_then = limits ∙ limits_are old L e legs next bytes rest fits found rested live asked fed heard

  -- what the bytes are as a request
  reads : reading_of request (request_bytes (number_of old) e ++ bytes) ≡ reading (site_of old) (number_of old) now
  reads =
      ap (λ (l : Limits). read_request l (request_bytes (number_of old) e ++ bytes)) limits_then
      ∙ ap (λ (l : List ℕ). read_request (site_of old).limits l) (sym (all_bytes old L e legs next bytes rest found rested live))

  body_is : body ≡ body_more (site_of old) (number_of old) e (In ev)
  body_is = out.is ∙ ap (λ r. drop (length (body_heard (site_of old) (number_of old) e)) (body_of (headed r))) reads

  whole_is : is_taken request ≡ is_whole (reading (site_of old) (number_of old) now)
  whole_is = knows_whole request (request_bytes (number_of old) e ++ bytes) (length (body_heard (site_of old) (number_of old) e) + length body) out.knows (ap (λ (b : Bool). b || is_taken request) out.looked) ∙ ap is_whole reads

  all_out : length (body_heard (site_of old) (number_of old) e) + length body ≡ length (body_heard (site_of old) (number_of old) now)
  all_out =
      all_handed (length (body_heard (site_of old) (number_of old) e)) (body_heard (site_of old) (number_of old) now) body body_is
      (subst (λ r. length (body_heard (site_of old) (number_of old) e) + length body ≤ length (body_of (headed r))) reads
      (taken_within request (request_bytes (number_of old) e ++ bytes) (length (body_heard (site_of old) (number_of old) e) + length body) out.knows out.ready))

  -- ---- the run

  unwhole : (held : Leg) → old.stage ≡ At.Running held → held.hop ≡ 0 → (v : View) → old.run ≡ Some v → v.whole ≡ false
  unwhole held at first v is = go (is_some v.outcome) refl
    where
      go : (b : Bool) → is_some v.outcome ≡ b → v.whole ≡ false
      go true decided = (spent_view old L e legs next rest found rested v is).whole decided
      go false undecided =
          let running = (at_stage old L e legs next rest rested (At.Running held) at).0 in
          (tells old L e legs next rest v is (leg_held held running.child) running.last).whole undecided
          ∙ (ap (λ (h : ℕ). (offered_at (site_of old) (number_of old) e h e.items).whole) first
          ∙ (sym (taken_now old L e legs next bytes rest found rested live) ∙ open_yet))

  offered_at_hop : (held : Leg) → old.stage ≡ At.Running held → (v : View) → old.run ≡ Some v → (hop : ℕ) → held.hop ≡ hop
      → offered_run (hop == 0 && not v.whole) body (is_taken request) (Some v) ≡ Some (offered_by (site_of old) (number_of old) e hop (In ev) v)
  offered_at_hop held at v is (suc hop) h = ap (λ (b : Bool). offered_run (b && not v.whole) body (is_taken request) (Some v)) (not_first hop)
  offered_at_hop held at v is zero h =
      ap (λ (b : Bool). offered_run (not b) body (is_taken request) (Some v)) (unwhole held at h v is)
      ∙ (ap (λ (l : List ℕ). Some (offered v l (is_taken request))) body_is ∙ ap (λ (b : Bool). Some (offered v (body_more (site_of old) (number_of old) e (In ev)) b)) whole_is)

  spent_offer : (v : View) → old.run ≡ Some v → is_some v.outcome ≡ true → (hop : ℕ) → offered_by (site_of old) (number_of old) e hop (In ev) v ≡ v
  spent_offer v is decided zero = offered_spent v (body_more (site_of old) (number_of old) e (In ev)) (is_whole (reading (site_of old) (number_of old) now)) decided
  spent_offer v is decided (suc hop) = refl

  offered_is : (v : View) → old.run ≡ Some v → offered_run (takes_body old.stage (Some v)) body (is_taken request) (Some v) ≡ Some (offered_by (site_of old) (number_of old) e (last_hop legs) (In ev) v)
  offered_is v is = go (is_running old.stage) refl
    where
      by_stage : (s : Stage) → old.stage ≡ s → is_running s ≡ true → offered_run (takes_body s (Some v)) body (is_taken request) (Some v) ≡ Some (offered_by (site_of old) (number_of old) e (last_hop legs) (In ev) v)
      by_stage (At.Running held) at r =
          offered_at_hop held at v is held.hop refl
          ∙ ap (λ (hop : ℕ). Some (offered_by (site_of old) (number_of old) e hop (In ev) v)) (sym (running_hop old L e legs next rest found rested held at v is))
      by_stage _ at r = absurd (false≢true r)

      go : (b : Bool) → is_running old.stage ≡ b → offered_run (takes_body old.stage (Some v)) body (is_taken request) (Some v) ≡ Some (offered_by (site_of old) (number_of old) e (last_hop legs) (In ev) v)
      go true r = by_stage old.stage refl r
      go false r = takes_none old.stage (Some v) body (is_taken request) r ∙ ap (λ (w : View). Some w) (sym (spent_offer v is (run_decided old L e legs next rest rested v is r) (last_hop legs)))

  -- ---- the stage

  abbrev later : StageIs (site_of old) (number_of old) now legs old.continued false (old.closing || old.closes) (more_after old L e legs next ev rest fits rested old.run) old.stage
  later = unlooked old L e legs next bytes rest fits found rested live asked fed heard true

  grown_body_is : (r : Request) → old.stage ≡ At.Unstarted 0 r → r.body ++ body ≡ body_heard (site_of old) (number_of old) now
  grown_body_is r at =
      let has : r.body ≡ body_heard (site_of old) (number_of old) e = rested.heard.bodies 0 r at in
      ap (λ (l : List ℕ). r.body ++ l) (body_is ∙ ap (λ (l : List ℕ). drop (length l) (body_heard (site_of old) (number_of old) now)) (sym has))
      ∙ (bodies_are_heard (site_of old) (number_of old) e (In ev) r).grows legs old.continued (is_looked_at old.request) (old.closing || old.closes) rested.staged.more rest.two
      (at_stage old L e legs next rest rested (At.Unstarted 0 r) at) has

  grown_is : (s : Stage) → old.stage ≡ s → StageIs (site_of old) (number_of old) now legs old.continued false (old.closing || old.closes) (more_after old L e legs next ev rest fits rested old.run) s
      → StageIs (site_of old) (number_of old) now legs old.continued false (old.closing || old.closes) (more_after old L e legs next ev rest fits rested old.run) (grown_stage body s)
  grown_is (At.Unstarted zero r) at is =
      bodies_may_grow (site_of old) (number_of old) now legs old.continued false (old.closing || old.closes) (more_after old L e legs next ev rest fits rested old.run) r (r.body ++ body)
      (grown_body_is r at) is
  grown_is (At.Unstarted (suc hop) r) at is = is
  grown_is _ at is = is

  grown_has : (s : Stage) → old.stage ≡ s → (hop : ℕ) (r : Request) → grown_stage body s ≡ At.Unstarted hop r → HasBody (site_of old) (number_of old) now hop r
  grown_has (At.Unstarted zero q) at hop r is =
      let same = waits_same zero hop (with_body q (q.body ++ body)) r is in
      subst (λ (h : ℕ). HasBody (site_of old) (number_of old) now h r) same.0 (ap (λ (p : Request). p.body) (sym same.1) ∙ grown_body_is q at)
  grown_has (At.Unstarted (suc n) q) at hop r is =
      let same = waits_same (suc n) hop q r is in
      subst (λ (h : ℕ). HasBody (site_of old) (number_of old) now h r) same.0 (ap (λ (p : Request). p.body) (sym same.1) ∙ rested.heard.bodies (suc n) q at)
  grown_has _ at hop r is = absurd (cc)

  pub taken_well : (mid : HttpConn) → SameAs old mid → mid.request ≡ request → mid.stage ≡ grown_stage body old.stage
      → mid.run ≡ offered_run (takes_body old.stage (heard_run ev true old.run)) body (is_taken request) (heard_run ev true old.run) → HeardWell old mid e ev legs
  taken_well mid same at_request stage run =
      let heard_is : mid.run ≡ run_heard (site_of old) (number_of old) e legs true ev old.run =
      run ∙ (ap (λ (r : Option View). offered_run (takes_body old.stage r) body (is_taken request) r) (same_run old L e legs next bytes rest fits found rested live asked fed heard old.run)
      ∙ run_by old L e legs next bytes rest fits found rested live asked fed heard old.run (offered_run (takes_body old.stage old.run) body (is_taken request) old.run) refl
      (λ v is. ap (λ (r : Option View). offered_run (takes_body old.stage r) body (is_taken request) r) is ∙ offered_is v is)
      (λ none. ap (λ (r : Option View). offered_run (takes_body old.stage r) body (is_taken request) r) none ∙ nothing (takes_body old.stage None))) in
      record {
        staged =
            staged_by old mid now legs (more_after old L e legs next ev rest fits rested old.run) (grown_stage body old.stage) same
            (λ keeps. output_kept old L e legs next ev rest fits rested old.run refl mid.run heard_is keeps) stage
            (looked_any (site_of old) (number_of old) now legs old.continued false (is_looked_at mid.request) (old.closing || old.closes) (more_after old L e legs next ev rest fits rested old.run) (grown_stage body old.stage)
            (grown_reading body old.stage ∙ other) (grown_is old.stage refl later));
        run = heard_is;
        heard = record {
          bodies = λ hop r at. body_by old mid now hop r same (grown_has old.stage refl hop r (sym stage ∙ at));
          looked = λ unread. ap (λ (i : Incoming). is_looked_at i || is_taken i) at_request ∙ ap (λ (b : Bool). b || is_taken request) out.looked;
          handed = λ ready. handed_by old mid now same
              (subst (λ (i : Incoming). KnowsRequest i (request_bytes (number_of old) now) (length (body_heard (site_of old) (number_of old) now))) (sym at_request)
              (subst (λ (l : List ℕ). KnowsRequest request l (length (body_heard (site_of old) (number_of old) now))) (sym (all_bytes old L e legs next bytes rest found rested live))
              (subst (λ (n : ℕ). KnowsRequest request (request_bytes (number_of old) e ++ bytes) n) all_out out.knows)));
        };
        bare = λ cause at. absurd (never_broken old L e legs next bytes rest fits found rested live asked fed heard cause (grown_interrupted body old.stage cause (sym stage ∙ at)));
        written = λ leg at. written_then old L e legs next ev rest fits rested (noted_by (In ev) old.stage) refl leg (noted leg at);
        apart = λ leg at ticked. apart_then old L e legs next ev rest fits rested (λ tick. absurd (false≢true tick)) (noted_by (In ev) old.stage) refl mid.run heard_is leg (noted leg at) ticked;
      }
    where
      nothing : (b : Bool) → offered_run b body (is_taken request) None ≡ None
      nothing true = refl
      nothing false = refl

      noted : (leg : Leg) → mid.stage ≡ At.Running leg → noted_by (In ev) old.stage ≡ At.Running leg
      noted leg at = noted_still (In ev) refl old.stage ∙ grown_running body old.stage leg (sym stage ∙ at)
