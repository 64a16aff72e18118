-- Bytes of the client between two steps.
use Rattle.std.proofs.Common.{◌≡◌, ◌≤◌, ℕ, zero, suc, ◌+◌, Bool, true, false, ◌||◌, not, List, [], ◌∷◌, ◌++◌, length, drop, Option, Some, None, is_some, if◌then◌else◌, refl, sym, ap, ◌∙◌, subst, arith, append-nil}
use Rattle.std.proofs.lemmas.Bool.{eq-eqb, false≢true}
use Rattle.std.proofs.lemmas.List.{length-drop}
use Rattle.host_base.specs.declared.limits.Limits.{Limits}
use Rattle.host_base.specs.declared.request.Request.{Request}
use Rattle.host_base.specs.declared.site.Site.{Site}
use Rattle.host_trace.specs.declared.items.Event.TheVariants.{ClientBytes}
use Rattle.host_trace.specs.declared.items.Item.{Item}
use Rattle.host_trace.specs.declared.items.Item.TheVariants.{In}
use Rattle.host_trace.specs.Kinds.{bytes_heard}
use Rattle.child_core.specs.Calls.{offered}
use Rattle.child_core.specs.View.{View}
use Rattle.conn_flags.specs.View.{is_live}
use Rattle.trace_model.specs.Exchange.{Exchange, pushed, reading, request_bytes}
use Rattle.trace_model.specs.Legs.{Leg as Started, offered_at}
use Rattle.trace_model.specs.Readings.{body_of, headed, is_whole, startable}
use Rattle.trace_model.proofs.ExchangeLaws.{request_bytes-push}
use Rattle.request_reader.specs.Request.{read_request}
use Rattle.exchange_request.specs.declared.incoming.Incoming.{Incoming}
use Rattle.exchange_request.specs.declared.found.Manner.{Manner}
use Rattle.exchange_request.specs.Knows.{KnowsRequest, StandsBy, is_looked_at, is_ready, is_taken, reading_of}
use Rattle.exchange_request.proofs.KnowsLaws.{unready, untaken}
use Rattle.exchange_stage.specs.declared.stage.Stage.{Stage}
use Rattle.exchange_stage.specs.declared.stage.Stage.TheVariants as At
use Rattle.exchange_laws.specs.Bodies.{body_heard}
use Rattle.exchange_laws.specs.Items.{is_calm}
use Rattle.exchange_laws.specs.OfRun.{leg_held}
use Rattle.exchange_laws.specs.StageIs.{StageIs}
use Rattle.child_laws.specs.Heard.{body_more, last_hop, offered_by}
use Rattle.child_laws.proofs.NoteLaws.{Grows, body_grows}
use Rattle.child_laws.proofs.SpentLaws.{offered_spent, offered_whole}
use Rattle.http_conn.specs.HttpConn.{HttpConn}
use Rattle.http_conn.specs.Kept.{is_reading, flags_of, number_of, site_of}
use Rattle.http_stage_laws.specs.HeardStages.{AtRest, Rested}
use Rattle.http_stage_laws.proofs.EndLaws.{or_none}
use Rattle.http_stage_laws.proofs.HeardEnd.{running_hop, seen_live}
use Rattle.http_stage_laws.proofs.HeardRest.{at_stage, calm, run_decided, taken_is, tells, unclosed}
use Rattle.http_stage_laws.proofs.HeardStage.{is_running}

-- ---- a request that a script was started for, or waits for

record Starts (site : Site) (c : ℕ) (e : Exchange) : Type 0 where
  pub first : Request
  pub is : startable (reading site c e) ≡ Some first

startable_stage : (site : Site) (c : ℕ) (e : Exchange) (legs : List Started) (continued looked closing : Bool) (more : List ℕ) (s : Stage) → is_calm legs s ≡ true → is_reading s ≡ false
    → StageIs site c e legs continued looked closing more s → Starts site c e
startable_stage site c e legs continued looked closing more At.Reading rests other is = absurd (false≢true (sym other))
startable_stage site c e legs continued looked closing more (At.Rejected cause bare) rests other is = absurd (false≢true rests)
startable_stage site c e legs continued looked closing more (At.Interrupted cause) rests other is = absurd (false≢true rests)
startable_stage site c e legs continued looked closing more (At.Refused cause) rests other is =
    record { first = is.0.last.reached.reaches.first; is = is.0.last.reached.reaches.start }
startable_stage site c e legs continued looked closing more (At.Unstarted hop request) rests other is =
    record { first = is.0.at_hop.reached.reaches.first; is = is.0.at_hop.reached.reaches.start }
startable_stage site c e legs continued looked closing more (At.Starting held launch body whole) rests other is = absurd (false≢true rests)
startable_stage site c e legs continued looked closing more (At.Running held) rests other is =
    record { first = is.0.last.reached.reaches.first; is = is.0.last.reached.reaches.start }
startable_stage site c e legs continued looked closing more (At.Finishing text closes) rests other is = absurd (false≢true rests)
startable_stage site c e [] continued looked closing more At.Answered rests other is = absurd (false≢true rests)
startable_stage site c e (first ∷ legs) continued looked closing more At.Answered rests other is =
    record { first = is.walked.1.reached.reaches.first; is = is.walked.1.reached.reaches.start }
startable_stage site c e legs continued looked closing more At.Silent rests other is =
    record { first = is.0.last.reached.reaches.first; is = is.0.last.reached.reaches.start }

unfresh : (b : Bool) → not b ≡ true → b ≡ false
unfresh true e = sym e
unfresh false e = refl

-- such a request was found ready
ready_by : (i : Incoming) (bytes : List ℕ) (taken : ℕ) (first : Request) → KnowsRequest i bytes taken → (is_looked_at i || is_taken i) ≡ true → startable (reading_of i bytes) ≡ Some first → is_ready i ≡ true
ready_by i bytes taken first k seen starts = go (is_ready i) refl
  where
    go : (b : Bool) → is_ready i ≡ b → is_ready i ≡ true
    go true is = is
    go false is =
        let looked : is_looked_at i ≡ true = sym (or_none (is_looked_at i)) ∙ (ap (λ (b : Bool). is_looked_at i || b) (sym (untaken i bytes taken is k)) ∙ seen) in
        let both : None ≡ Some first = sym ((unready i bytes taken is k).looked (unfresh i.fresh looked)) ∙ starts in
        absurd (cc)

-- no more of a body was handed out than came
pub taken_within : (i : Incoming) (bytes : List ℕ) (taken : ℕ) → KnowsRequest i bytes taken → is_ready i ≡ true → taken ≤ length (body_of (headed (reading_of i bytes)))
taken_within i bytes taken k ready = go i.manner i.whole ready k.stands
  where
    go : (m : Option Manner) (w : Bool) → is_some m ≡ true → StandsBy i m w bytes taken → taken ≤ length (body_of (headed (reading_of i bytes)))
    go None w r s = absurd (false≢true r)
    go (Some manner) false r s = subst (λ (q : Option Request). taken ≤ length (body_of q)) (sym s.head) s.some
    go (Some manner) true r s =
        let whole : headed (reading_of i bytes) ≡ Some s.request = ap headed s.is in
        subst (λ (q : Option Request). taken ≤ length (body_of q)) (sym whole) (omega (arith, s.all))

pub all_handed : (taken : ℕ) (all : List ℕ) (body : List ℕ) → body ≡ drop taken all → taken + length body ≤ length all → taken + length body ≡ length all
all_handed taken all body is within = omega (arith, ap length is, length-drop taken all, within)

module _ (old : HttpConn) (L : List Item) (e : Exchange) (legs : List Started) (next : ℕ) (bytes : List ℕ) (rest : AtRest old L e legs next) (found : old.lost ≡ false) (rested : Rested old e legs)
    (live : is_live (flags_of old) ≡ true) where
  -- the item
  abbrev pub came : Item
  came = In (ClientBytes (number_of old) bytes)

  pub bytes_are : bytes_heard (number_of old) came ≡ bytes
  bytes_are = ap (λ (b : Bool). if b then bytes else []) (eq-eqb (number_of old) (number_of old) refl)

  pub all_bytes : request_bytes (number_of old) (pushed e came) ≡ request_bytes (number_of old) e ++ bytes
  all_bytes = request_bytes-push (number_of old) e came ∙ ap (λ (l : List ℕ). request_bytes (number_of old) e ++ l) bytes_are

  open_yet : e.closed ≡ false
  open_yet = unclosed old L e legs next rest rested live

  pub seen : (is_looked_at old.request || is_taken old.request) ≡ true
  seen = seen_live old L e legs next rest found rested live

  pub taken_now : is_taken old.request ≡ is_whole (reading (site_of old) (number_of old) e)
  taken_now = taken_is old L e legs next rest rested found open_yet seen

  module _ (other : is_reading old.stage ≡ false) where
    starts : Starts (site_of old) (number_of old) e
    starts =
        startable_stage (site_of old) (number_of old) e legs old.continued (is_looked_at old.request) (old.closing || old.closes) rested.staged.more old.stage
        (calm old L e legs next rest rested) other rested.staged.is

    pub ready_now : is_ready old.request ≡ true
    ready_now =
        let h = rest.front.request found open_yet in
        ready_by old.request (request_bytes (number_of old) e) h.taken starts.first h.knows seen
        (ap (λ (l : Limits). startable (read_request l (request_bytes (number_of old) e))) rest.front.limits ∙ starts.is)

    pub grows : Grows (reading (site_of old) (number_of old) e) (reading (site_of old) (number_of old) (pushed e came))
    grows = body_grows (site_of old) (number_of old) e came rest.two starts.first starts.is

    -- nothing more comes of a body that is whole
    pub none_more : is_taken old.request ≡ true → body_more (site_of old) (number_of old) e came ≡ []
    none_more taken = grows.done (sym taken_now ∙ taken)

    pub same_body : is_taken old.request ≡ true → body_heard (site_of old) (number_of old) (pushed e came) ≡ body_heard (site_of old) (number_of old) e
    same_body taken =
        grows.body ∙ (ap (λ (l : List ℕ). body_heard (site_of old) (number_of old) e ++ l) (none_more taken) ∙ append-nil (body_heard (site_of old) (number_of old) e))

  -- ---- what was offered

  -- a run that was decided, or was offered all, keeps nothing more
  pub offered_none : (v : View) → old.run ≡ Some v → (is_reading old.stage ≡ false → is_taken old.request ≡ true) → (hop : ℕ) → last_hop legs ≡ hop
      → offered_by (site_of old) (number_of old) e hop came v ≡ v
  offered_none v is whole (suc hop) at = refl
  offered_none v is whole zero at = by_outcome (is_some v.outcome) refl
    where
      last_whole : is_some v.outcome ≡ false → v.whole ≡ true
      last_whole undecided = go (is_running old.stage) refl
        where
          by_stage : (s : Stage) → old.stage ≡ s → is_running s ≡ true → v.whole ≡ true
          by_stage (At.Running held) on r =
              let running = (at_stage old L e legs next rest rested (At.Running held) on).0 in
              (tells old L e legs next rest v is (leg_held held running.child) running.last).whole undecided
              ∙ (ap (λ (h : ℕ). (offered_at (site_of old) (number_of old) e h e.items).whole) (sym (running_hop old L e legs next rest found rested held on v is) ∙ at)
              ∙ (sym taken_now ∙ whole (ap is_reading on)))
          by_stage _ on r = absurd (false≢true r)

          go : (b : Bool) → is_running old.stage ≡ b → v.whole ≡ true
          go true r = by_stage old.stage refl r
          go false r = absurd (false≢true (sym undecided ∙ run_decided old L e legs next rest rested v is r))

      by_outcome : (b : Bool) → is_some v.outcome ≡ b → offered v (body_more (site_of old) (number_of old) e came) (is_whole (reading (site_of old) (number_of old) (pushed e came))) ≡ v
      by_outcome true decided = offered_spent v (body_more (site_of old) (number_of old) e came) (is_whole (reading (site_of old) (number_of old) (pushed e came))) decided
      by_outcome false undecided =
          let none : body_more (site_of old) (number_of old) e came ≡ [] = none_more (not_reading undecided) (whole (not_reading undecided)) in
          ap (λ (l : List ℕ). offered v l (is_whole (reading (site_of old) (number_of old) (pushed e came)))) none
          ∙ offered_whole v (is_whole (reading (site_of old) (number_of old) (pushed e came))) (last_whole undecided)
        where
          not_reading : is_some v.outcome ≡ false → is_reading old.stage ≡ false
          not_reading u = go (is_running old.stage) refl
            where
              runs : (s : Stage) → is_running s ≡ true → is_reading s ≡ false
              runs At.Reading r = absurd (false≢true r)
              runs _ r = refl

              go : (b : Bool) → is_running old.stage ≡ b → is_reading old.stage ≡ false
              go true r = runs old.stage r
              go false r = absurd (false≢true (sym u ∙ run_decided old L e legs next rest rested v is r))
