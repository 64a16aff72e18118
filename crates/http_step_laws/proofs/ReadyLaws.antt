-- What is due of an answer is made ready.
use Rattle.std.proofs.Common.{◌≡◌, ℕ, suc, Bool, true, false, ◌&&◌, not, if◌then◌else◌, List, [], ◌∷◌, ◌++◌, Option, Some, None, refl, sym, ap, ◌∙◌, subst, append-nil, inl}
use Rattle.std.specs.Prelude.{nat_le}
use Rattle.std.proofs.lemmas.Bool.{false≢true, or_from}
use Rattle.host_base.specs.declared.cause.Cause.{Cause}
use Rattle.host_base.specs.declared.cause.Cause.TheVariants.{RedirectLoop}
use Rattle.host_base.specs.declared.request.Request.{Request}
use Rattle.host_trace.specs.declared.items.Act.{Act}
use Rattle.host_trace.specs.declared.items.Event.{Event}
use Rattle.host_trace.specs.declared.items.Item.{Item}
use Rattle.host_trace.specs.declared.items.Item.TheVariants.{In}
use Rattle.host_trace.specs.Projections.{last_secs}
use Rattle.reply_stream.specs.declared.stream.Last.{Last}
use Rattle.reply_stream.specs.declared.stream.Last.TheVariants as Ended
use Rattle.request_reader.specs.Request.{is_begun}
use Rattle.child_core.specs.declared.ending.Outcome.{Outcome}
use Rattle.child_core.specs.declared.ending.Outcome.TheVariants.{Dropped, Failed, Gone, Output, Stopped}
use Rattle.child_core.specs.View.{View}
use Rattle.trace_model.specs.Answer.{request_of_hop}
use Rattle.trace_model.specs.Exchange.{Exchange, request_bytes}
use Rattle.exchange_stage.specs.declared.stage.Leg.{Leg}
use Rattle.exchange_stage.specs.declared.stage.Stage.{Stage}
use Rattle.exchange_stage.specs.declared.stage.Stage.TheVariants as At
use Rattle.exchange_laws.specs.Bodies.{HasBody}
use Rattle.exchange_laws.proofs.ReasonParts.{no_more}
use Rattle.child_laws.specs.Step.{Turn}
use Rattle.child_laws.specs.Moves.{Deals, may_lose}
use Rattle.child_laws.proofs.MoveLaws.{drains_move}
use Rattle.conn_laws.specs.Moves.{Move}
use Rattle.http_conn.specs.HttpConn.{HttpConn}
use Rattle.http_conn.specs.Begins.{ByOutcome, ReadiesAnswer, silenced}
use Rattle.http_conn.specs.Kept.{is_reading, flags_of, number_of, site_of}
use Rattle.http_conn.specs.Ready.{BreaksBy, EndsWith, outcome_of_run}
use Rattle.http_conn.specs.Reasons.{is_done_with}
use Rattle.http_conn.specs.Settles.{is_answered}
use Rattle.http_conn.specs.Slot.{run_settled}
use Rattle.http_stage_laws.specs.Staged.{Staged}
use Rattle.http_stage_laws.proofs.StagedLaws.{answers_staged}
use Rattle.http_conn.specs.Parts.{MakesReady}
use Rattle.http_stage_laws.specs.Inward.{CutBy, CutIs, IsDecided, IsPast, is_left, is_running}
use Rattle.http_step_laws.specs.Standing.{LetOn, Makes, Ready, ReadyAt, Standing, Within, ends_at, gives_at}
use Rattle.http_step_laws.proofs.BodyWords.{no_script_waits, one_waits}
use Rattle.http_step_laws.proofs.EndWords.{Going, accepted_of, goes, going, unshut_of}
use Rattle.http_step_laws.proofs.ReadyWords.{apt_at, decided_by, decided_drained, drained_by, free_drained, may_answer, outcome_drained, unawaited_now, undrained_none}

module _ (L : List Item) (ev : Event) (acts : List Act) (turn : Turn) (e : Exchange) (old : HttpConn) (n : ℕ) (s : Standing L ev acts turn n e old) (on_let : LetOn e old)
    (free : may_lose turn old.run ≡ true) (on : ends_at old e ≡ false) (stamp : Option ℕ) (clock : stamp ≡ last_secs (L ++ In ev ∷ [])) where
  abbrev bytes : List ℕ
  bytes = request_bytes (number_of old) e

  g : Going old (is_done_with old bytes)
  g = going old (is_done_with old bytes) on

  deals_drained : (drains : Bool) (run : Option View) → Deals (site_of old) (number_of old) L ev acts e s.over (old.lost && not (flags_of old).shut) turn n s.legs run
      → Deals (site_of old) (number_of old) L ev acts e s.over (old.lost && not (flags_of old).shut) turn n s.legs (drained_by drains run)
  deals_drained false run d = d
  deals_drained true None d = d
  deals_drained true (Some v) d = drains_move (site_of old) (number_of old) L ev acts e s.over (old.lost && not (flags_of old).shut) turn n s.legs v d

  -- this is its stage then
  module _ (stage : Stage) (drains : Bool) (cut : Option Cause) (staged : Staged (record old { run = drained_by drains old.run; cut = cut; stage = stage }) e s.legs)
      (cut_is : CutIs stage (outcome_of_run old.run) cut) (bodies : (hop : ℕ) (request : Request) → stage ≡ At.Unstarted hop request → HasBody (site_of old) (number_of old) e hop request)
      (at : ReadyAt (record old { run = drained_by drains old.run; cut = cut; stage = stage }) e stage) (uncut : gives_at stage ≡ true → cut ≡ None) (reads : is_reading stage ≡ false) (none : is_answered stage ≡ false) (decided : is_running stage ≡ false → IsDecided old.run)
      (past : IsPast old.stage old.run → IsPast stage (drained_by drains old.run)) where
    abbrev mid : HttpConn
    mid = record old { run = drained_by drains old.run; cut = cut; stage = stage }

    undone : is_done_with mid bytes ≡ false
    undone = ap (λ (b : Bool). (flags_of old).ended && b && not (is_begun bytes)) reads ∙ no_more (flags_of old).ended (not (is_begun bytes))

    on_then : gives_at stage ≡ true → ends_at mid e ≡ false
    on_then given = goes mid (is_done_with mid bytes) (record {
      may = g.may;
      unstopped = g.unstopped;
      here = g.here;
      found = g.found;
      calm = g.calm;
      open_yet = g.open_yet;
      unclosed = g.unclosed;
      uncut = uncut given;
      undone = undone;
    })

    ready_as : Makes (Within turn Ready) L ev acts e old n [] mid
    ready_as = record {
      in_step = tt;
      right = tt;
      turn = turn;
      over = s.over;
      legs = s.legs;
      staged = λ f. staged;
      lost = λ is. absurd (false≢true (sym g.found ∙ is));
      memory = λ is. absurd (false≢true (sym g.found ∙ is));
      children = subst (λ (l : List Act). Deals (site_of old) (number_of old) L ev l e s.over (old.lost && not (flags_of old).shut) turn n s.legs (drained_by drains old.run)) (sym (append-nil acts))
          (deals_drained drains old.run s.children);
      heard = λ f. record { bodies = bodies; looked = λ r. on_let.read.looked f on; handed = (s.heard f).handed };
      inward = record {
        calm = λ idle. absurd (false≢true (sym g.calm ∙ idle));
        calm_found = λ found idle. absurd (false≢true (sym g.calm ∙ idle));
        accepted = λ r. accepted_of old (is_done_with old bytes) g;
        cut_is = λ f. subst (λ (o : Option Outcome). CutIs stage o cut) (sym (outcome_drained drains old.run)) cut_is;
        held = λ shut. absurd (false≢true (sym (unshut_of old (is_done_with old bytes) g) ∙ shut));
        http = s.inward.http;
        lost_in = λ is. absurd (false≢true (sym g.found ∙ is));
        decided = λ f r. decided_drained drains old.run (decided r);
        left = λ f is. s.inward.left g.found (sym (ap is_left (outcome_drained drains old.run)) ∙ is);
        stays = λ f unshut ends. absurd (false≢true (sym (or_from _ _ g.unstopped g.here) ∙ ends));
        closes_is = λ is. absurd (false≢true (sym g.unclosed ∙ is));
        room = s.inward.room;
        asked = s.inward.asked;
        within = λ f open_yet either. record { untaken = (s.inward.within f open_yet either).untaken; looked = λ r. absurd (false≢true (sym reads ∙ r)) };
        past = λ f open_yet unshut is. past (s.inward.past f open_yet unshut is);
      };
      starts_first = s.starts_first;
      accepted = accepted_of old (is_done_with old bytes) g;
      post = (
        refl,
        free_drained turn drains old.run free,
        record {
          found = g.found;
          unover = ap (λ (b : Bool). b && run_settled (drained_by drains old.run)) none;
          at = at;
          on = on_then;
          none = λ u first. unawaited_now L ev acts turn e old n s on_let g.found on first;
        },
      );
    }

  -- it is as it was
  same_as : ReadyAt old e old.stage → Makes (Within turn Ready) L ev acts e old n [] old
  same_as at = record {
    in_step = tt;
    right = tt;
    turn = turn;
    over = s.over;
    legs = s.legs;
    staged = s.staged;
    lost = s.lost;
    memory = λ is shut. inl (is, shut);
    children = subst (λ (l : List Act). Deals (site_of old) (number_of old) L ev l e s.over (old.lost && not (flags_of old).shut) turn n s.legs old.run) (sym (append-nil acts)) s.children;
    heard = s.heard;
    inward = s.inward;
    starts_first = s.starts_first;
    accepted = accepted_of old (is_done_with old bytes) g;
    post = (
      refl,
      free,
      record {
        found = g.found;
        unover = on_let.read.apt.unover;
        at = at;
        on = λ given. on;
        none = λ u first. unawaited_now L ev acts turn e old n s on_let g.found on first;
      },
    );
  }

  module _ (new : HttpConn) (found : new.lost ≡ false) (readied : ReadiesAnswer old.stage stamp old new) where
    staged_new : Staged new e s.legs
    staged_new = answers_staged old new stamp e s.legs (may_answer L ev acts turn e old n s on_let g.found on stamp clock) readied

    finishing : (text : List ℕ) (closes : Bool) → IsDecided old.run → new ≡ record old { stage = At.Finishing text closes } → Makes (Within turn Ready) L ev acts e old n [] new
    finishing text closes d is =
        subst (λ (c : HttpConn). Makes (Within turn Ready) L ev acts e old n [] c) (sym is)
        (ready_as (At.Finishing text closes) false old.cut (subst (λ (c : HttpConn). Staged c e s.legs) is staged_new) g.uncut
        (no_script_waits (site_of old) (number_of old) e (At.Finishing text closes) refl) tt (λ given. g.uncut) refl refl (λ r. d) (λ p. tt))

    to_hop : (b : Bool) (hop : ℕ) (request : Request) (location : List ℕ) → IsDecided old.run
        → new ≡ record old { stage = if b then At.Refused RedirectLoop else At.Unstarted (suc hop) (request_of_hop request location) } → Makes (Within turn Ready) L ev acts e old n [] new
    to_hop true hop request location d is =
        subst (λ (c : HttpConn). Makes (Within turn Ready) L ev acts e old n [] c) (sym is)
        (ready_as (At.Refused RedirectLoop) false old.cut (subst (λ (c : HttpConn). Staged c e s.legs) is staged_new) g.uncut
        (no_script_waits (site_of old) (number_of old) e (At.Refused RedirectLoop) refl) tt (λ given. g.uncut) refl refl (λ r. d) (λ p. tt))
    to_hop false hop request location d is =
        subst (λ (c : HttpConn). Makes (Within turn Ready) L ev acts e old n [] c) (sym is)
        (ready_as (At.Unstarted (suc hop) (request_of_hop request location)) false old.cut (subst (λ (c : HttpConn). Staged c e s.legs) is staged_new) g.uncut
        (one_waits (site_of old) (number_of old) e (suc hop) (request_of_hop request location) refl) tt (λ given. g.uncut) refl refl (λ r. d) (λ p zero_is. cc))

    concluded : (leg : Leg) (closes_now : Bool) (last : Last) → IsDecided old.run → EndsWith leg closes_now stamp (silenced old) new last → Makes (Within turn Ready) L ev acts e old n [] new
    concluded leg closes_now (Ended.Written text) d w = finishing text w.0 d w.2
    concluded leg closes_now (Ended.Hop location) d is = to_hop (nat_le (site_of old).limits.redirects leg.hop) leg.hop leg.request location d is
    concluded leg closes_now (Ended.Bad cause) d f = finishing f.text closes_now d f.is

    unchanged : (t : Stage) → old.stage ≡ t → ReadyAt old e t → new ≡ old → Makes (Within turn Ready) L ev acts e old n [] new
    unchanged t at ready same =
        subst (λ (c : HttpConn). Makes (Within turn Ready) L ev acts e old n [] c) (sym same) (same_as (subst (λ (x : Stage). ReadyAt old e x) (sym at) ready))

    broke : (leg : Leg) (cause : Cause) (closes begun : Bool) → outcome_of_run old.run ≡ Some (Failed cause) → BreaksBy leg cause closes stamp (silenced old) new begun
        → Makes (Within turn Ready) L ev acts e old n [] new
    broke leg cause closes true failed is =
        subst (λ (c : HttpConn). Makes (Within turn Ready) L ev acts e old n [] c) (sym is)
        (ready_as At.Silent false (Some cause) (subst (λ (c : HttpConn). Staged c e s.legs) is staged_new) (subst (λ (o : Option Outcome). CutBy o (Some cause)) (sym failed) refl) (no_script_waits (site_of old) (number_of old) e (At.Silent) refl) tt
        (λ given. absurd (false≢true given)) refl refl (λ r. decided_by old.run (Failed cause) failed) (λ p. tt))
    broke leg cause closes false failed by = finishing by.0 closes (decided_by old.run (Failed cause) failed) by.1

    fell_silent : (o : Outcome) → CutBy (Some o) old.cut → outcome_of_run old.run ≡ Some o → new ≡ silenced old → Makes (Within turn Ready) L ev acts e old n [] new
    fell_silent o cut is same =
        subst (λ (c : HttpConn). Makes (Within turn Ready) L ev acts e old n [] c) (sym same)
        (ready_as At.Silent false old.cut (subst (λ (c : HttpConn). Staged c e s.legs) same staged_new) (subst (λ (p : Option Outcome). CutBy p old.cut) (sym is) cut) (no_script_waits (site_of old) (number_of old) e (At.Silent) refl) tt
        (λ given. absurd (false≢true given)) refl refl (λ r. decided_by old.run o is) (λ p. tt))

    by_outcome : (leg : Leg) → old.stage ≡ At.Running leg → (o : Option Outcome) → outcome_of_run old.run ≡ o → ByOutcome o leg stamp (silenced old) new → Makes (Within turn Ready) L ev acts e old n [] new
    by_outcome leg at None is t =
        subst (λ (c : HttpConn). Makes (Within turn Ready) L ev acts e old n [] c) (sym t.is)
        (ready_as (At.Running (record leg { reply = t.reply; ticked = false; text = t.text })) true old.cut (subst (λ (c : HttpConn). Staged c e s.legs) t.is staged_new) g.uncut
        (no_script_waits (site_of old) (number_of old) e (At.Running (record leg { reply = t.reply; ticked = false; text = t.text })) refl)
        (outcome_drained true old.run ∙ is, undrained_none old.run, refl) (λ given. g.uncut) refl refl (λ r. absurd (false≢true (sym r)))
        (λ p first. decided_drained true old.run (subst (λ (t : Stage). IsPast t old.run) at p first)))
    by_outcome leg at (Some Output) is con = concluded leg con.closes_now con.last (decided_by old.run Output is) con.with
    by_outcome leg at (Some (Failed cause)) is b = broke leg cause b.closes b.begun is b.by
    by_outcome leg at (Some Gone) is same = fell_silent Gone g.uncut is same
    by_outcome leg at (Some Stopped) is same = fell_silent Stopped g.uncut is same
    by_outcome leg at (Some Dropped) is same = fell_silent Dropped g.uncut is same

    by_stage : (t : Stage) → old.stage ≡ t → ReadiesAnswer t stamp old new → Makes (Within turn Ready) L ev acts e old n [] new
    by_stage (At.Rejected cause bare) at f = finishing f.text true (s.inward.decided g.found (ap is_running at)) f.is
    by_stage (At.Interrupted cause) at f = finishing f.text true (s.inward.decided g.found (ap is_running at)) f.is
    by_stage (At.Running leg) at by = by_outcome leg at (outcome_of_run old.run) refl by
    by_stage At.Reading at same = unchanged At.Reading at tt same
    by_stage (At.Refused cause) at same = unchanged (At.Refused cause) at tt same
    by_stage (At.Unstarted hop request) at same = unchanged (At.Unstarted hop request) at tt same
    by_stage (At.Starting leg launch body whole) at same = absurd (apt_at L ev acts turn e old n s on_let g.found on (At.Starting leg launch body whole) at)
    by_stage (At.Finishing text closes) at same = absurd (apt_at L ev acts turn e old n s on_let g.found on (At.Finishing text closes) at)
    by_stage At.Answered at same = unchanged At.Answered at tt same
    by_stage At.Silent at same = unchanged At.Silent at tt same

  pub readies_make : (moves : List Move) (new : HttpConn) → MakesReady stamp old n moves new → Makes (Within turn Ready) L ev acts e old n moves new
  readies_make moves new m =
      subst (λ (l : List Move). Makes (Within turn Ready) L ev acts e old n l new) (sym m.none) (by_stage new m.found m.readies old.stage refl m.readies)
