-- What waits for its turn is made ready, and given.
use Rattle.std.proofs.Common.{◌≡◌, ◌≤◌, ℕ, Bool, true, false, ◌&&◌, ◌||◌, not, List, [], ◌∷◌, ◌++◌, Option, Result, Ok, Err, refl, sym, ap, ◌∙◌, subst, append-nil, inl}
use Rattle.std.specs.Prelude.{nat_lt}
use Rattle.std.proofs.lemmas.Bool.{false≢true, or_from}
use Rattle.host_base.specs.declared.cause.Cause.{Cause}
use Rattle.host_base.specs.declared.request.Request.{Request}
use Rattle.host_base.specs.declared.site.Mapped.{Mapped}
use Rattle.host_base.specs.declared.site.ScriptKind.{ScriptKind}
use Rattle.host_base.specs.declared.site.ScriptKind.TheVariants.{Cgi, Nph, WebSocket}
use Rattle.host_trace.specs.declared.items.Act.{Act}
use Rattle.host_trace.specs.declared.items.Event.{Event}
use Rattle.host_trace.specs.declared.items.Item.{Item}
use Rattle.host_trace.specs.declared.items.Item.TheVariants.{In}
use Rattle.host_trace.specs.Projections.{last_secs}
use Rattle.request_reader.specs.Request.{is_begun}
use Rattle.trace_model.specs.Exchange.{Exchange, request_bytes}
use Rattle.exchange_request.specs.Knows.{is_taken}
use Rattle.exchange_stage.specs.declared.stage.Stage.{Stage}
use Rattle.exchange_stage.specs.declared.stage.Stage.TheVariants as At
use Rattle.exchange_laws.specs.Items.{is_unanswered}
use Rattle.exchange_laws.proofs.ReasonParts.{no_more}
use Rattle.conn_flags.specs.View.{has_room}
use Rattle.conn_flags.specs.Form.{are_given}
use Rattle.child_laws.specs.Step.{Turn}
use Rattle.child_laws.specs.Moves.{Deals}
use Rattle.conn_laws.specs.Moves.{Move, acts_of}
use Rattle.http_conn.specs.HttpConn.{HttpConn}
use Rattle.http_conn.specs.Begins.{PlaceBy, ReadiesHop, Refuses, ScriptBy, Starts, silenced}
use Rattle.http_conn.specs.Kept.{is_reading, flags_of, number_of, site_of}
use Rattle.http_conn.specs.Ready.{outcome_of_run}
use Rattle.http_conn.specs.Reasons.{is_done_with}
use Rattle.http_conn.specs.Settles.{is_answered, is_over}
use Rattle.http_conn.specs.Slot.{run_settled}
use Rattle.http_stage_laws.specs.Staged.{Staged}
use Rattle.http_stage_laws.proofs.HopLaws.{hops_staged}
use Rattle.http_conn.specs.Parts.{GivesHop, GivesHopBy, MakesHopReady, Nothing}
use Rattle.http_stage_laws.specs.Inward.{CutIs, IsPast, is_running}
use Rattle.http_step_laws.specs.Standing.{EvenAt, IsAwake, Leaves, Makes, Quiet, ReadyAt, Rest, Standing, Within, ends_at, is_early}
use Rattle.http_step_laws.proofs.EndWords.{Going, accepted_of, goes, going, unshut_of}
use Rattle.http_step_laws.proofs.LastLaws.{rest_leaves}
use Rattle.http_step_laws.proofs.BodyWords.{is_unstarted, no_script_waits}
use Rattle.http_step_laws.proofs.HopWords.{may_hop}
use Rattle.http_step_laws.proofs.StageWords.{even_free, free_settled}
use Rattle.http_step_laws.proofs.StartLaws.{start_leaves}
use Rattle.http_step_laws.proofs.ThenLaws.{leaves_as, leaves_none}

-- it is to be given
abbrev pub gives_hop : Stage → Bool
gives_hop (At.Finishing text closes) = true
gives_hop (At.Starting leg launch body whole) = true
gives_hop stage = false

-- what a hop has to give is ready: nothing ends the connection, no child is left, and there is room
pub record HopReady (at : Turn) (turn : Turn) (e : Exchange) (conn : HttpConn) : Type 0 where
  pub same : turn ≡ at
  pub found : conn.lost ≡ false
  pub unover : is_over conn ≡ false
  pub on : ends_at conn e ≡ false
  pub settled : run_settled conn.run ≡ true
  pub room : has_room (flags_of conn) ≡ true
  pub quiet : gives_hop conn.stage ≡ false → Quiet e conn

module _ (L : List Item) (ev : Event) (acts : List Act) (turn : Turn) (e : Exchange) (old : HttpConn) (n : ℕ) (s : Standing L ev acts turn n e old) (two : 2 ≤ (site_of old).limits.head)
    (q : Quiet e old) (on : ends_at old e ≡ false) (settled : run_settled old.run ≡ true) (room : has_room (flags_of old) ≡ true) (stamp : Option ℕ) (clock : stamp ≡ last_secs (L ++ In ev ∷ [])) where
  abbrev bytes : List ℕ
  bytes = request_bytes (number_of old) e

  g : Going old (is_done_with old bytes)
  g = going old (is_done_with old bytes) on

  deals_same : Deals (site_of old) (number_of old) L ev (acts ++ []) e s.over (is_early old) turn n s.legs old.run
  deals_same = subst (λ (l : List Act). Deals (site_of old) (number_of old) L ev l e s.over (is_early old) turn n s.legs old.run) (sym (append-nil acts)) s.children

  module _ (stage : Stage) (staged : Staged (record old { stage = stage }) e s.legs) (cut : CutIs stage (outcome_of_run old.run) old.cut) (waits : is_unstarted stage ≡ false)
      (away : is_reading old.stage ≡ false) (still : is_running old.stage ≡ false) (reads : is_reading stage ≡ false) (none : is_answered stage ≡ false) (given : gives_hop stage ≡ true)
      (past : IsPast old.stage old.run → IsPast stage old.run) where
    abbrev mid : HttpConn
    mid = record old { stage = stage }

    hop_as : Makes (HopReady turn) L ev acts e old n [] mid
    hop_as = record {
      in_step = tt;
      right = tt;
      turn = turn;
      over = s.over;
      legs = s.legs;
      staged = λ f. staged;
      lost = λ is. absurd (false≢true (sym g.found ∙ is));
      memory = λ is. absurd (false≢true (sym g.found ∙ is));
      children = deals_same;
      heard = λ f. record { bodies = no_script_waits (site_of old) (number_of old) e stage waits; looked = λ r. (s.heard f).looked away; handed = (s.heard f).handed };
      inward = record {
        calm = λ idle. absurd (false≢true (sym g.calm ∙ idle));
        calm_found = λ found idle. absurd (false≢true (sym g.calm ∙ idle));
        accepted = λ r. accepted_of old (is_done_with old bytes) g;
        http = s.inward.http;
        lost_in = λ is. absurd (false≢true (sym g.found ∙ is));
        decided = λ f r. s.inward.decided g.found still;
        left = s.inward.left;
        cut_is = λ f. cut;
        held = λ shut. absurd (false≢true (sym (unshut_of old (is_done_with old bytes) g) ∙ shut));
        stays = λ f unshut ends. absurd (false≢true (sym (or_from _ _ g.unstopped g.here) ∙ ends));
        closes_is = λ is. absurd (false≢true (sym g.unclosed ∙ is));
        room = s.inward.room;
        asked = s.inward.asked;
        within = λ f open_yet either. record { untaken = (s.inward.within f open_yet either).untaken; looked = λ r. absurd (false≢true (sym reads ∙ r)) };
        past = λ f open_yet unshut is. past (s.inward.past f open_yet unshut is);
      };
      starts_first = s.starts_first;
      accepted = accepted_of old (is_done_with old bytes) g;
      post = record {
        same = refl;
        found = g.found;
        unover = ap (λ (b : Bool). b && run_settled old.run) none;
        on = goes mid (is_done_with mid bytes) (record {
          may = g.may;
          unstopped = g.unstopped;
          here = g.here;
          found = g.found;
          calm = g.calm;
          open_yet = g.open_yet;
          unclosed = g.unclosed;
          uncut = g.uncut;
          undone = ap (λ (b : Bool). (flags_of old).ended && b && not (is_begun bytes)) reads ∙ no_more (flags_of old).ended (not (is_begun bytes));
        });
        settled = settled;
        room = room;
        quiet = λ gives. absurd (false≢true (sym gives ∙ given));
      };
    }

  same_as : Makes (HopReady turn) L ev acts e old n [] old
  same_as = record {
    in_step = tt;
    right = tt;
    turn = turn;
    over = s.over;
    legs = s.legs;
    staged = s.staged;
    lost = s.lost;
    memory = λ is shut. inl (is, shut);
    children = deals_same;
    heard = s.heard;
    inward = s.inward;
    starts_first = s.starts_first;
    accepted = accepted_of old (is_done_with old bytes) g;
    post = record { same = refl; found = g.found; unover = q.unover; on = on; settled = settled; room = room; quiet = λ gives. q };
  }

  module _ (new : HttpConn) (readied : ReadiesHop old.stage stamp old new) where
    staged_new : is_reading old.stage ≡ false → Staged new e s.legs
    staged_new away = hops_staged old new stamp e s.legs (may_hop L ev acts turn e old n s q g.found on away settled room stamp clock) readied

    unchanged : new ≡ old → Makes (HopReady turn) L ev acts e old n [] new
    unchanged same = subst (λ (c : HttpConn). Makes (HopReady turn) L ev acts e old n [] c) (sym same) same_as

    refuses : (cause : Cause) → is_reading old.stage ≡ false → is_running old.stage ≡ false → Refuses cause stamp (silenced old) new → Makes (HopReady turn) L ev acts e old n [] new
    refuses cause away still r =
        subst (λ (c : HttpConn). Makes (HopReady turn) L ev acts e old n [] c) (sym r.fault.is)
        (hop_as (At.Finishing r.fault.text r.closes) (subst (λ (c : HttpConn). Staged c e s.legs) r.fault.is (staged_new away)) g.uncut refl away still refl refl refl (λ p. tt))

    starts : (hop : ℕ) (kind : ScriptKind) (request : Request) (mapped : Mapped) → is_reading old.stage ≡ false → is_running old.stage ≡ false → (IsPast old.stage old.run → hop ≡ 0 → ⊥) → Starts hop kind request mapped (silenced old) new → Makes (HopReady turn) L ev acts e old n [] new
    starts hop kind request mapped away still waits r =
        subst (λ (c : HttpConn). Makes (HopReady turn) L ev acts e old n [] c) (sym r.is)
        (hop_as (At.Starting r.leg r.launch request.body (nat_lt 0 hop || is_taken old.request)) (subst (λ (c : HttpConn). Staged c e s.legs) r.is (staged_new away)) g.uncut refl away still refl refl refl
        (λ p first. waits p (sym r.leg_is.hop_is ∙ first)))

    found_as : (hop : ℕ) (kind : ScriptKind) (request : Request) (mapped : Mapped) → is_reading old.stage ≡ false → is_running old.stage ≡ false → (IsPast old.stage old.run → hop ≡ 0 → ⊥) → ScriptBy kind hop request mapped stamp (silenced old) new
        → Makes (HopReady turn) L ev acts e old n [] new
    found_as hop Cgi request mapped away still waits b = starts hop Cgi request mapped away still waits b
    found_as hop Nph request mapped away still waits b = starts hop Nph request mapped away still waits b
    found_as hop WebSocket request mapped away still waits b = refuses b.0 away still b.2

    placed : (hop : ℕ) (request : Request) (answer : Result Mapped Cause) → is_reading old.stage ≡ false → is_running old.stage ≡ false → (IsPast old.stage old.run → hop ≡ 0 → ⊥) → PlaceBy answer hop request stamp (silenced old) new → Makes (HopReady turn) L ev acts e old n [] new
    placed hop request (Ok mapped) away still waits f = found_as hop f.kind request mapped away still waits f.by
    placed hop request (Err cause) away still waits r = refuses cause away still r

    by_stage : (t : Stage) → old.stage ≡ t → ReadiesHop t stamp old new → Makes (HopReady turn) L ev acts e old n [] new
    by_stage (At.Refused cause) at r = refuses cause (ap is_reading at) (ap is_running at) r
    by_stage (At.Unstarted hop request) at p = placed hop request p.answer (ap is_reading at) (ap is_running at) (λ past first. subst (λ (t : Stage). IsPast t old.run) at past first) p.by
    by_stage At.Reading at same = unchanged same
    by_stage (At.Rejected cause bare) at same = unchanged same
    by_stage (At.Interrupted cause) at same = unchanged same
    by_stage (At.Starting leg launch body whole) at same = unchanged same
    by_stage (At.Running leg) at same = unchanged same
    by_stage (At.Finishing text closes) at same = unchanged same
    by_stage At.Answered at same = unchanged same
    by_stage At.Silent at same = unchanged same

  pub hops_make : (moves : List Move) (new : HttpConn) → MakesHopReady stamp old n moves new → Makes (HopReady turn) L ev acts e old n moves new
  hops_make moves new m =
      subst (λ (l : List Move). Makes (HopReady turn) L ev acts e old n l new) (sym m.none) (by_stage new m.readies old.stage refl m.readies)

-- what is ready of the hop is given
module _ (L : List Item) (ev : Event) (acts : List Act) (turn : Turn) (e : Exchange) (old : HttpConn) (n : ℕ) (s : Standing L ev acts turn n e old) (two : 2 ≤ (site_of old).limits.head)
    (awake : IsAwake turn) (r : HopReady turn turn e old) (moves : List Move) (new : HttpConn) (form : are_given (flags_of old) (acts_of moves) ≡ true) where
  kept : (t : Stage) → old.stage ≡ t → gives_hop t ≡ false → Nothing old n moves new → Leaves Rest L ev acts e old n moves new
  kept t at none nothing =
      leaves_none Rest L ev acts turn e old new n moves s nothing (awake, r.quiet (ap gives_hop at ∙ none), even_free (has_room (flags_of old)) turn old.run awake (free_settled turn old.run r.settled))

  by_given : (t : Stage) → old.stage ≡ t → GivesHopBy t old n moves new → Leaves Rest L ev acts e old n moves new
  by_given (At.Finishing text closes) at by =
      leaves_as (Within turn Quiet) Rest L ev acts e old new n moves
      (λ t d p. (subst IsAwake (sym p.0) awake, p.2, subst (λ (x : Turn). EvenAt (has_room (flags_of new)) x new.run) (sym p.0) (even_free (has_room (flags_of new)) turn new.run awake p.1)))
      (rest_leaves L ev acts turn e old n s two (record {
        found = r.found;
        unover = r.unover;
        at = subst (λ (x : Stage). ReadyAt old e x) (sym at) tt;
        on = λ gives. r.on;
        none = λ u. absurd (false≢true (sym (ap is_unanswered at) ∙ u));
      }) (free_settled turn old.run r.settled) r.on text closes at moves new by form)
  by_given (At.Starting leg launch body whole) at by = start_leaves L ev acts turn e old n s two r.unover r.on r.settled r.room leg launch body whole at moves new by form awake
  by_given At.Reading at none = kept At.Reading at refl none
  by_given (At.Rejected cause bare) at none = kept (At.Rejected cause bare) at refl none
  by_given (At.Interrupted cause) at none = kept (At.Interrupted cause) at refl none
  by_given (At.Refused cause) at none = kept (At.Refused cause) at refl none
  by_given (At.Unstarted hop request) at none = kept (At.Unstarted hop request) at refl none
  by_given (At.Running leg) at none = kept (At.Running leg) at refl none
  by_given At.Answered at none = kept At.Answered at refl none
  by_given At.Silent at none = kept At.Silent at refl none

  pub gives_hop_leave : GivesHop old n moves new → Leaves Rest L ev acts e old n moves new
  gives_hop_leave by = by_given old.stage refl by
