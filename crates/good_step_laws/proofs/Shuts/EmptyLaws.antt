-- Round after round no memory runs out where nothing was heard of the exchange.
use Rattle.std.proofs.Common.{◌≡◌, ◌≤◌, ◌⊎◌, ℕ, zero, suc, Bool, true, false, ◌&&◌, ◌||◌, not, List, [], ◌∷◌, ◌++◌, Option, Some, None, refl, sym, ap, ◌∙◌, subst, inl, inr}
use Rattle.std.proofs.lemmas.Bool.{and_right, false≢true}
use Rattle.host_base.specs.declared.request.Request.{Request}
use Rattle.host_trace.specs.declared.items.Act.{Act}
use Rattle.host_trace.specs.declared.items.Event.{Event}
use Rattle.host_trace.specs.declared.items.Item.{Item}
use Rattle.own_traces.specs.Whose.{next_after}
use Rattle.child_core.specs.View.{View}
use Rattle.request_reader.specs.Request.{More, read_request}
use Rattle.trace_model.specs.Exchange.{Exchange, reading, request_bytes}
use Rattle.trace_model.specs.Legs.{Leg as Started}
use Rattle.trace_model.specs.Readings.{is_due, startable}
use Rattle.exchange_request.specs.Knows.{is_looked_at}
use Rattle.exchange_stage.specs.declared.stage.Stage.{Stage}
use Rattle.exchange_stage.specs.declared.stage.Stage.TheVariants as At
use Rattle.exchange_laws.specs.StageIs.{StageIs}
use Rattle.exchange_laws.specs.Unanswered.{is_awaited, is_open}
use Rattle.conn_flags.specs.View.{has_room}
use Rattle.child_laws.specs.Children.{KnowsRuns, NoMore as Whatever}
use Rattle.child_laws.specs.Step.{Turn}
use Rattle.conn_laws.specs.Moves.{Move, acts_of}
use Rattle.http_conn.specs.HttpConn.{HttpConn}
use Rattle.http_conn.specs.Begins.{ReadiesHop}
use Rattle.http_conn.specs.Kept.{flags_of, number_of, site_of}
use Rattle.http_conn.specs.Ready.{waits_at}
use Rattle.http_conn.specs.Reasons.{ends_with, is_done_with}
use Rattle.http_conn.specs.Slot.{run_settled}
use Rattle.http_conn.specs.Tells.{TellsMore, goes_at, has_turn}
use Rattle.http_conn.specs.Parts.{Begins, BeginsBy, GivesHop, GivesHopBy, LosesTurn, MakesHopReady, Nothing, Or, Part, Round, Rounds, RoundsOn, Then, the_one, the_other}
use Rattle.http_stage_laws.proofs.StagedLaws.{no_last}
use Rattle.http_step_laws.specs.Standing.{Apt, Rest, Standing, ends_at}
use Rattle.http_step_laws.proofs.EndWords.{going}
use Rattle.http_step_laws.proofs.RoundLaws.{GoesOn, apt_on, goes_on}
use Rattle.http_step_laws.proofs.StageWords.{known, more_in, stage_at}
use Rattle.http_stage_laws.specs.Inward.{is_running}
use Rattle.good_step_laws.specs.Shuts.Memory.{Calm, CalmAt, CalmRun}
use Rattle.good_step_laws.proofs.Shuts.CalmWords.{NoMore, Still, StillAt, still_no_more}
use Rattle.good_step_laws.proofs.Shuts.CalmLaws.{answered_still, nothing_read}

-- ---- nothing is begun where nothing more is due

no_turn : (a b d : Bool) → (b && d) ≡ false → true ≡ (a && b && d) → ⊥
no_turn true true true none e = false≢true (sym none)
no_turn true true false none e = false≢true (sym e)
no_turn true false d none e = false≢true (sym e)
no_turn false b d none e = false≢true (sym e)

pub begins_still : (stamp : Option ℕ) (old new : HttpConn) (n : ℕ) (moves : List Move) → StillAt old old.stage → Begins stamp old n moves new → new ≡ old
begins_still stamp old new n moves still b = go b.turn refl b.by
  where
    same : (t : Stage) → old.stage ≡ t → ((mid : HttpConn) → ReadiesHop t stamp old mid → mid ≡ old) → ((k : ℕ) (ys : List Move) → GivesHopBy t old k ys new → Nothing old k ys new) → waits_at t ≡ false
        → BeginsBy true stamp old n moves new → new ≡ old
    same t at ready gives waits (the_one w) =
        let mid_is : w.mid ≡ old = ready w.mid (subst (λ (x : Stage). ReadiesHop x stamp old w.mid) at w.first.by.readies) in
        let k : ℕ = next_after n (acts_of w.sooner) in
        (gives k w.later (subst (λ (x : Stage). GivesHopBy x old k w.later new) at (subst (λ (x : HttpConn). GivesHop x k w.later new) mid_is w.second))).same
    same t at ready gives waits (the_other p) = absurd (false≢true (sym waits ∙ (sym (ap waits_at at) ∙ p.by.waits)))

    by_stage : (t : Stage) → old.stage ≡ t → StillAt old t → true ≡ has_turn old b.tells.done → BeginsBy true stamp old n moves new → new ≡ old
    by_stage At.Reading at c turn by = same At.Reading at (λ mid r. r) (λ k ys g. g) refl by
    by_stage (At.Running leg) at c turn by = same (At.Running leg) at (λ mid r. r) (λ k ys g. g) refl by
    by_stage At.Answered at c turn by = same At.Answered at (λ mid r. r) (λ k ys g. g) refl by
    by_stage At.Silent at c turn by = same At.Silent at (λ mid r. r) (λ k ys g. g) refl by
    by_stage (At.Refused cause) at c turn by = absurd (no_turn (not (ends_with old b.tells.done)) (run_settled old.run) (has_room (flags_of old)) c turn)
    by_stage (At.Unstarted hop request) at c turn by = absurd (no_turn (not (ends_with old b.tells.done)) (run_settled old.run) (has_room (flags_of old)) c turn)
    by_stage _ at c turn by = absurd c

    go : (turn : Bool) → b.turn ≡ turn → BeginsBy turn stamp old n moves new → new ≡ old
    go false is nothing = nothing.same
    go true is by = by_stage old.stage refl still (sym is ∙ b.tells.is) by

-- ---- an exchange of which nothing was heard

module _ (L : List Item) (ev : Event) (acts : List Act) (turn : Turn) (d : Exchange) (x : HttpConn) (n : ℕ) (s : Standing L ev acts turn n d x) (two : 2 ≤ (site_of x).limits.head)
    (rest : Rest turn d x) (none : request_bytes (number_of x) d ≡ []) (found : x.lost ≡ false) (stamp : Option ℕ) where
  nothing_there : reading (site_of x) (number_of x) d ≡ More None false
  nothing_there = ap (λ (l : List ℕ). read_request (site_of x).limits l) none ∙ nothing_read (site_of x).limits two

  no_request : (request : Request) → startable (reading (site_of x) (number_of x) d) ≡ Some request → ⊥
  no_request request is = absurd_at (sym (ap startable nothing_there) ∙ is)
    where
      absurd_at : None ≡ Some request → ⊥
      absurd_at e = absurd (cc)

  at_stage : (t : Stage) → x.stage ≡ t → StageIs (site_of x) (number_of x) d s.legs x.continued (is_looked_at x.request) (x.closing || x.closes) (more_in x d s.legs (s.staged found)) t
  at_stage t at = stage_at x d s.legs t at (s.staged found)

  is_read : (m : TellsMore x true) → x.stage ≡ At.Reading
  is_read m = go x.stage refl (sym m.is)
    where
      go : (t : Stage) → x.stage ≡ t → goes_at x m.done t ≡ true → x.stage ≡ At.Reading
      go At.Reading at e = at
      go (At.Refused cause) at e = absurd (no_request _ (at_stage (At.Refused cause) at).0.last.reached.reaches.start)
      go (At.Unstarted hop request) at e = absurd (no_request _ (at_stage (At.Unstarted hop request) at).0.at_hop.reached.reaches.start)
      go _ at e = absurd (false≢true e)

  no_child : x.stage ≡ At.Reading → CalmRun (is_running x.stage) (has_room (flags_of x)) x.run
  no_child at = go x.run (known L ev acts turn n d x s found).runs
    where
      go : (run : Option View) → KnowsRuns Whatever (site_of x) (number_of x) d false s.legs run → CalmRun (is_running x.stage) (has_room (flags_of x)) run
      go None k = tt
      go (Some v) k = absurd (no_last k.older k.leg (sym (at_stage At.Reading at).0.none ∙ k.are))

  calm_now : x.stage ≡ At.Reading → Calm d x
  calm_now at = record {
    run = no_child at;
    let_on = λ first. and_right (is_open (number_of x) d) (is_due (reading (site_of x) (number_of x) d)) (ap is_due nothing_there);
    at = subst (λ (t : Stage). CalmAt x d t) (sym at) (inr none);
  }

  empty_round : (moves : List Move) (new : HttpConn) → Round stamp x n moves new → (new.lost ≡ false) × NoMore new
  empty_round moves new r =
      let g : GoesOn d x = goes_on L ev acts turn d x n s two r.more in
      let apt : Apt d x = apt_on L ev acts turn d x n s two rest.1 g in
      let still : Still r.does.mid = answered_still L ev acts turn d x n s two apt g.on (calm_now (is_read r.more)) stamp r.does.sooner r.does.mid r.does.first in
      let same : new ≡ r.does.mid = begins_still stamp r.does.mid new (next_after n (acts_of r.does.sooner)) r.does.later still.at r.does.second in
      (ap (λ (c : HttpConn). c.lost) same ∙ still.found, subst (λ (c : HttpConn). NoMore c) (sym same) (still_no_more r.does.mid still.at))

  empty_rounds : (turns : ℕ) (moves : List Move) (new : HttpConn) → Rounds (suc turns) stamp x n moves new → (new.lost ≡ false) × NoMore new
  empty_rounds zero moves new w =
      let e : Round stamp x n w.later new = subst (λ (l : List Move). Round stamp x (next_after n (acts_of l)) w.later new) w.first.none (subst (λ (c : HttpConn). Round stamp c (next_after n (acts_of w.sooner)) w.later new) w.first.same w.second) in
      empty_round w.later new e
  empty_rounds (suc turns) moves new w = let before = empty_rounds turns w.sooner w.mid w.first in absurd (before.1 w.second.more)

  pub empty_found : (moves : List Move) (new : HttpConn) → RoundsOn stamp x n moves new → new.lost ≡ false
  empty_found moves new r = go r.turns r.none r.does
    where
      go : (turns : ℕ) → (turns ≡ 0 → new ≡ x) → Then (Rounds turns stamp) (Or Nothing (Part LosesTurn)) x n moves new → new.lost ≡ false
      go zero same t = ap (λ (c : HttpConn). c.lost) (same refl) ∙ found
      go (suc turns) same t = let a = empty_rounds turns t.sooner t.mid t.first in last _ a t.second
        where
          last : (k : ℕ) → (t.mid.lost ≡ false) × NoMore t.mid → Or Nothing (Part LosesTurn) t.mid k t.later new → new.lost ≡ false
          last k a (the_one nothing) = ap (λ (c : HttpConn). c.lost) nothing.same ∙ a.0
          last k a (the_other p) = absurd (a.1 p.by.more)
