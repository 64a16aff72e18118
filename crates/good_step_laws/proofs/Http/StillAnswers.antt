-- A live connection that is at rest has nothing to look at and nothing to answer.
use Rattle.std.proofs.Common.{◌≡◌, ℕ, ◌&&◌, ◌||◌, Bool, true, false, not, List, [], ◌++◌, Option, Some, None, option_map, refl, sym, ap, ◌∙◌, subst, append-nil}
use Rattle.std.proofs.lemmas.Bool.{and_from, and_right, false≢true, false_from_ne_true, or_from, or_left, or_parts}
use Rattle.std.proofs.lemmas.List.Folds.{list_any-append}
use Rattle.host_base.specs.declared.limits.Limits.{Limits}
use Rattle.host_trace.specs.declared.items.Item.{Item}
use Rattle.host_trace.specs.Decider.{Outcome as Read, is_websocket}
use Rattle.host_trace.specs.Kinds.{is_shut}
use Rattle.host_trace.specs.Projections.{shut}
use Rattle.child_core.specs.declared.ending.Outcome.{Outcome}
use Rattle.child_core.specs.declared.ending.Outcome.TheVariants as Ended
use Rattle.child_core.specs.Knows.{read}
use Rattle.child_core.specs.View.{View, is_other}
use Rattle.conn_flags.specs.View.{is_live}
use Rattle.trace_model.specs.Demands.{is_live as live_then}
use Rattle.trace_model.specs.Exchange.{Exchange, all_of, reading, request_bytes}
use Rattle.trace_model.specs.Legs.{Leg as Started}
use Rattle.trace_model.specs.Readings.{is_due}
use Rattle.request_reader.specs.Request.{read_request}
use Rattle.exchange_reply.specs.Reply.{Gives as GivesReply}
use Rattle.exchange_request.specs.Knows.{is_looked_at, is_read, is_taken}
use Rattle.exchange_request.proofs.KnowsLaws.{knows_due}
use Rattle.exchange_stage.specs.declared.stage.Leg.{Leg}
use Rattle.exchange_stage.specs.declared.stage.Stage.{Stage}
use Rattle.exchange_stage.specs.declared.stage.Stage.TheVariants as At
use Rattle.exchange_laws.specs.OfRun.{leg_held}
use Rattle.exchange_laws.specs.Rules.{Rests, RunRests}
use Rattle.exchange_laws.specs.StageIs.{StageIs}
use Rattle.exchange_laws.specs.Unanswered.{is_open}
use Rattle.conn_laws.specs.Front.{IsHeard}
use Rattle.child_laws.specs.Children.{KnowsRuns, NoMore}
use Rattle.http_conn.specs.HttpConn.{HttpConn}
use Rattle.http_conn.specs.Begins.{ByOutcome, ReadiesAnswer, silenced}
use Rattle.http_conn.specs.Kept.{is_reading, flags_of, number_of, site_of}
use Rattle.http_conn.specs.Parts.{Answers, AnswersOn, Gives, GivesBy, LetsOn, MakesReady, Part, ReadsBy, ReadsOn, Then, WritesPart, gives_all, the_one}
use Rattle.http_conn.specs.Ready.{Tells, drained_run, outcome_of_run, undrained}
use Rattle.http_conn.specs.Reasons.{ends_with}
use Rattle.http_conn.specs.Writes.{acts_written, wrote}
use Rattle.http_stage_laws.specs.HeardStages.{AtRest, Rested}
use Rattle.http_stage_laws.specs.Staged.{drops_of}
use Rattle.http_stage_laws.proofs.StagedLaws.{outcome_told}
use Rattle.http_step_laws.proofs.EndWords.{Going, ends_same, going, unclosed_of, unshut_of}
use Rattle.trace_model.specs.Closes.{is_nph}
use Rattle.good_step_laws.proofs.Http.QuietLaws.{Idle, both, done_is, done_of, nothing, part}
use Rattle.good_step_laws.proofs.Http.RuleLaws.{all_is, live_same}
use Rattle.good_step_laws.proofs.Http.StillWords.{persist_of, persist_told, still_gives}

module _ (conn : HttpConn) (L : List Item) (e : Exchange) (legs : List Started) (n : ℕ) (r : AtRest conn L e legs n) (stamp : Option ℕ) (live : is_live (flags_of conn) ≡ true) where
  pub live_now : live_then (number_of conn) (all_of e) ≡ true
  live_now = live_same conn L e legs n r ∙ live

  pub found : conn.lost ≡ false
  found =
      false_from_ne_true conn.lost (λ lost.
      false≢true (sym (and_right (flags_of conn).accepted (not (flags_of conn).shut) (ap not (r.lost lost).shut)) ∙ live))

  pub q : Rested conn e legs
  q = r.found found

  abbrev done : Bool
  done = done_of conn

  pub ends : ends_with conn done ≡ false
  ends = ends_same conn e r.two r.front done (done_is conn) ∙ q.going live

  pub g : Going conn done
  g = going conn done ends

  unclosed : e.closed ≡ false
  unclosed = unclosed_of conn e done r.front g

  looked_by : (t : Stage) → Rests (site_of conn) (number_of conn) e legs (is_looked_at conn.request) q.staged.more t → is_reading t ≡ true → is_looked_at conn.request ≡ true
  looked_by At.Reading rests reads = rests live_now
  looked_by t rests reads = absurd (false≢true reads)

  pub read_all : is_read conn.request ≡ true
  read_all = go (is_reading conn.stage) refl
    where
      go : (b : Bool) → is_reading conn.stage ≡ b → is_read conn.request ≡ true
      go true reads = or_left (is_looked_at conn.request) (is_taken conn.request) (looked_by conn.stage q.rests reads)
      go false other = q.heard.looked other

  -- ---- what came, and 100 Continue

  reads : Idle conn n ReadsOn
  reads = record {
    ending = false;
    tells = record { done = done; tells = done_is conn; is = sym ends };
    by = subst (λ (b : Bool). ReadsBy false b conn n [] conn) (sym (none_unread (is_reading conn.stage) refl)) (nothing conn n);
  }
    where
      none_unread : (b : Bool) → is_reading conn.stage ≡ b → (is_reading conn.stage && not (is_looked_at conn.request)) ≡ false
      none_unread true is = and_right (is_reading conn.stage) (not (is_looked_at conn.request)) (ap not (looked_by conn.stage q.rests is))
      none_unread false is = ap (λ (b : Bool). b && not (is_looked_at conn.request)) is

  undue : conn.continued ≡ false → conn.request.due ≡ false
  undue first =
      let h : IsHeard conn.request (is_reading conn.stage) (request_bytes (number_of conn) e) = r.front.request found unclosed in
      let before : shut e.before (number_of conn) ≡ false =
      (or_parts (shut e.before (number_of conn)) (shut e.items (number_of conn))
      (sym (list_any-append (is_shut (number_of conn)) e.before e.items)
      ∙ (ap (λ (l : List Item). shut l (number_of conn)) (all_is conn L e legs n r) ∙ (sym r.flags.shut ∙ unshut_of conn done g)))).0 in
      let open_now : is_open (number_of conn) e ≡ true = and_from (not e.closed) (not (shut e.before (number_of conn))) (ap not unclosed) (ap not before) in
      knows_due conn.request (request_bytes (number_of conn) e) h.taken h.knows read_all
      ∙ (ap (λ (l : Limits). is_due (read_request l (request_bytes (number_of conn) e))) r.front.limits
      ∙ (sym (ap (λ (b : Bool). b && is_due (reading (site_of conn) (number_of conn) e)) open_now) ∙ q.let_on first))

  lets_on : Idle conn n LetsOn
  lets_on = record {
    due = false;
    tells = record {
      done = done;
      tells = done_is conn;
      awaited = conn.request.due;
      awaits = λ bytes taken k seen. knows_due conn.request bytes taken k seen;
      is = sym (go conn.continued refl);
    };
    by = nothing conn n;
  }
    where
      go : (b : Bool) → conn.continued ≡ b → (not (ends_with conn done) && conn.request.due && not conn.continued) ≡ false
      go true is = and_right (not (ends_with conn done) && conn.request.due) (not conn.continued) (ap not is)
      go false is = ap (λ (b : Bool). b && not conn.continued) (and_right (not (ends_with conn done)) conn.request.due (undue is))

  -- ---- its answer

  undropped : (run : Option View) → KnowsRuns NoMore (site_of conn) (number_of conn) e false legs run → outcome_of_run run ≡ None → drops_of run ≡ false
  undropped None k none = refl
  undropped (Some v) k none = or_from (is_websocket v.kind) (is_other v.outcome) (ap (λ (w : View). is_websocket w.kind) k.held_as ∙ k.known.plain) (ap is_other none)

  drained_same : (run : Option View) → undrained run ≡ [] → drained_run run ≡ run
  drained_same None none = refl
  drained_same (Some v) none = ap (λ (l : List ℕ). Some (record v { output = l })) (sym none)

  module _ (leg : Leg) (at : conn.stage ≡ At.Running leg) where
    rests_leg : Rests (site_of conn) (number_of conn) e legs (is_looked_at conn.request) q.staged.more (At.Running leg)
    rests_leg = subst (λ (t : Stage). Rests (site_of conn) (number_of conn) e legs (is_looked_at conn.request) q.staged.more t) at q.rests

    running : StageIs (site_of conn) (number_of conn) e legs conn.continued (is_looked_at conn.request) (conn.closing || conn.closes) q.staged.more (At.Running leg)
    running = subst (λ (t : Stage). StageIs (site_of conn) (number_of conn) e legs conn.continued (is_looked_at conn.request) (conn.closing || conn.closes) q.staged.more t) at q.staged.is

    rests_by : (o : Option Outcome) → outcome_of_run conn.run ≡ o → RunRests (number_of conn) e q.staged.more leg (option_map read o)
    rests_by o is =
        subst (λ (p : Option Read). RunRests (number_of conn) e q.staged.more leg p)
        (outcome_told (site_of conn) (number_of conn) e n legs conn.run r.children (leg_held leg running.0.child) running.0.last ∙ ap (λ (p : Option Outcome). option_map read p) is)
        (rests_leg.1 (leg_held leg running.0.child) running.0.last)

    leg_same : leg.ticked ≡ false → record leg { reply = leg.reply; ticked = false; text = [] } ≡ leg
    leg_same unticked = ap (λ (b : Bool). record leg { ticked = b; text = [] }) (sym unticked) ∙ ap (λ (t : List ℕ). record leg { text = t }) (sym rests_leg.0)

    tells_none : outcome_of_run conn.run ≡ None → Tells leg stamp (silenced conn) conn
    tells_none none =
        let rest = rests_by None none in
        let dry : undrained conn.run ≡ [] = sym (q.staged.kept (undropped conn.run r.children.runs none)) ∙ rest.0 in
        record {
          text = [];
          reply = leg.reply;
          closes = is_nph leg.kind || not (persist_of conn.request);
          closes_is = λ bytes all. ap (λ (b : Bool). is_nph leg.kind || not b) (persist_told conn.request bytes all.taken all.knows all.looked);
          is = sym (ap (λ (x : Option View). record conn { run = x; stage = At.Running (record leg { reply = leg.reply; ticked = false; text = [] }) }) (drained_same conn.run dry)
              ∙ (ap (λ (x : Leg). record conn { stage = At.Running x }) (leg_same rest.1) ∙ ap (λ (t : Stage). record conn { stage = t }) (sym at)));
          piece = λ unticked asked told ticked stood k.
              subst (λ (l : List ℕ). GivesReply asked l ticked (is_nph leg.kind || not (persist_of conn.request)) stamp stood [] leg.reply)
              (sym (ap (λ (l : List ℕ). told ++ l) dry ∙ append-nil told)) (still_gives asked told ticked (is_nph leg.kind || not (persist_of conn.request)) stamp stood leg.reply k);
          none = λ unticked nothing_came. refl;
          tick = λ ticked. absurd (false≢true (sym rest.1 ∙ ticked));
          filled = λ ticked. absurd (false≢true (sym rest.1 ∙ ticked));
          both = λ ticked. absurd (false≢true (sym rest.1 ∙ ticked));
        }

    dead_not : live_then (number_of conn) (all_of e) ≡ false → ⊥
    dead_not dead = false≢true (sym dead ∙ live_now)

    by_outcome : (o : Option Outcome) → outcome_of_run conn.run ≡ o → ByOutcome o leg stamp (silenced conn) conn
    by_outcome None is = tells_none is
    by_outcome (Some Ended.Output) is = absurd (rests_by (Some Ended.Output) is)
    by_outcome (Some (Ended.Failed cause)) is = absurd (dead_not (rests_by (Some (Ended.Failed cause)) is))
    by_outcome (Some Ended.Gone) is = absurd (dead_not (rests_by (Some Ended.Gone) is))
    by_outcome (Some Ended.Stopped) is = absurd (dead_not (rests_by (Some Ended.Stopped) is))
    by_outcome (Some Ended.Dropped) is = absurd (dead_not (rests_by (Some Ended.Dropped) is))

    writes_none : WritesPart leg conn n [] conn
    writes_none = record {
      moves_are = ap (λ (t : List ℕ). gives_all (acts_written conn.flags.c t true)) (sym rests_leg.0);
      is = sym (ap (λ (t : List ℕ). record (wrote t true conn) { stage = At.Running (record leg { text = [] }) }) rests_leg.0
          ∙ (ap (λ (t : List ℕ). record conn { stage = At.Running (record leg { text = t }) }) (sym rests_leg.0) ∙ ap (λ (t : Stage). record conn { stage = t }) (sym at)));
    }

  readies : (t : Stage) → conn.stage ≡ t → Rests (site_of conn) (number_of conn) e legs (is_looked_at conn.request) q.staged.more t → ReadiesAnswer t stamp conn conn
  readies (At.Rejected cause bare) at rests = absurd rests
  readies (At.Interrupted cause) at rests = absurd rests
  readies (At.Starting leg launch body whole) at rests = absurd rests
  readies (At.Running leg) at rests = by_outcome leg at (outcome_of_run conn.run) refl
  readies (At.Finishing text closes) at rests = absurd rests
  readies _ at rests = refl

  gives : (t : Stage) → conn.stage ≡ t → Rests (site_of conn) (number_of conn) e legs (is_looked_at conn.request) q.staged.more t → GivesBy t conn n [] conn
  gives (At.Running leg) at rests = the_one (part conn n (WritesPart leg) (writes_none leg at))
  gives (At.Finishing text closes) at rests = absurd rests
  gives _ at rests = nothing conn n

  answers_on : Idle conn n (AnswersOn stamp)
  answers_on = record {
    ending = false;
    tells = record { done = done; tells = done_is conn; is = sym ends };
    by = the_one
        (both conn n (Part (MakesReady stamp)) Gives (part conn n (MakesReady stamp) (record { none = refl; found = found; readies = readies conn.stage refl q.rests })) (gives conn.stage refl q.rests));
  }

  pub answers : Idle conn n (Answers stamp)
  answers = both conn n (Part ReadsOn) (Then (Part LetsOn) (AnswersOn stamp)) (part conn n ReadsOn reads) (both conn n (Part LetsOn) (AnswersOn stamp) (part conn n LetsOn lets_on) answers_on)
