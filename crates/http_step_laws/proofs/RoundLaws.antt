-- Round after round, as long as something may go on.
use Rattle.std.proofs.Common.{◌≡◌, ◌≤◌, ℕ, zero, suc, Bool, true, false, ◌&&◌, not, List, [], ◌∷◌, ◌++◌, Option, Some, None, refl, sym, ap, ◌∙◌, subst}
use Rattle.std.proofs.lemmas.Bool.{and_parts, false≢true, not-true}
use Rattle.host_base.specs.declared.site.Site.{Site}
use Rattle.host_trace.specs.declared.items.Act.{Act}
use Rattle.host_trace.specs.declared.items.Event.{Event}
use Rattle.host_trace.specs.declared.items.Item.{Item}
use Rattle.host_trace.specs.declared.items.Item.TheVariants.{In}
use Rattle.host_trace.specs.Projections.{last_secs}
use Rattle.child_core.specs.declared.ending.Ending.TheVariants.{Dropped}
use Rattle.child_core.specs.View.{View}
use Rattle.trace_model.specs.Exchange.{Exchange, request_bytes}
use Rattle.exchange_request.specs.Knows.{is_looked_at}
use Rattle.exchange_stage.specs.declared.stage.Stage.{Stage}
use Rattle.exchange_stage.specs.declared.stage.Stage.TheVariants as At
use Rattle.conn_flags.specs.View.{has_room}
use Rattle.conn_flags.specs.Form.{are_given}
use Rattle.child_laws.specs.Children.{KnowsRuns, NoMore}
use Rattle.child_laws.specs.Step.{Turn, waiting}
use Rattle.child_laws.specs.Moves.{may_lose}
use Rattle.conn_laws.specs.Moves.{Move, acts_of}
use Rattle.http_conn.specs.HttpConn.{HttpConn}
use Rattle.http_conn.specs.Kept.{flags_of, number_of, site_of}
use Rattle.http_conn.specs.Moves.{ended_run}
use Rattle.http_conn.specs.Ready.{outcome_of_run}
use Rattle.http_conn.specs.Reasons.{ends_with, is_done_with}
use Rattle.http_conn.specs.Slot.{run_settled}
use Rattle.http_stage_laws.proofs.StagedLaws.{no_last}
use Rattle.http_conn.specs.Parts.{Answers, Begins, BeginsBy, GivesHop, Handles, Loses, LosesHop, LosesTurn, MakesHopReady, Nothing, Or, Part, Round, Rounds, RoundsOn, Serves, Then, the_one, the_other}
use Rattle.http_step_laws.specs.Standing.{Apt, AptAt, IsAwake, Leaves, Makes, Quiet, Rest, Standing, Within, ends_at, must_go}
use Rattle.http_conn.specs.Tells.{TellsMore, goes_at, has_turn}
use Rattle.http_step_laws.proofs.AnswerLaws.{answers_leave}
use Rattle.http_step_laws.proofs.EndWords.{Going, accepted_of, ends_same, going, unshut_of}
use Rattle.http_step_laws.proofs.HandleLaws.{handles_leave}
use Rattle.http_step_laws.proofs.HopLaws.{HopReady, gives_hop_leave, hops_make}
use Rattle.http_step_laws.proofs.LossLaws.{lost_with, loses, over_lost, posts_lost}
use Rattle.http_step_laws.proofs.QuietWords.{quiet_unended}
use Rattle.http_step_laws.proofs.StageWords.{even_free, free_lost, free_settled, known, stage_at, unwhole}
use Rattle.http_step_laws.proofs.ThenLaws.{leaves_as, leaves_made, leaves_none, then_leaves}

-- ---- memory runs out at a round

lose_on : (L : List Item) (ev : Event) (acts : List Act) (turn : Turn) (e : Exchange) (old : HttpConn) (n : ℕ) (s : Standing L ev acts turn n e old) → IsAwake turn → Quiet e old
    → Going old (is_done_with old (request_bytes (number_of old) e)) → run_settled old.run ≡ true → (moves : List Move) (new : HttpConn) → Loses old n moves new → Makes Rest L ev acts e old n moves new
lose_on L ev acts turn e old n s awake q g settled moves new l =
    loses Rest L ev acts turn e old n s (record {
      found = g.found;
      free = free_settled turn old.run settled;
      unshut = unshut_of old (is_done_with old (request_bytes (number_of old) e)) g;
      unwhole = λ none. unwhole old e s.legs (s.staged g.found) (quiet_unended L ev acts turn e old n s g.found (q.found g.found)) none;
    }) new moves l.none l.gives_up (λ idle. absurd (false≢true (sym g.calm ∙ idle))) (accepted_of old (is_done_with old (request_bytes (number_of old) e)) g) (
      awake,
      (posts_lost e (lost_with old new.stage new.request) refl (over_lost old new.stage new.request l.gives_up.answered ∙ q.unover)).quiet,
      even_free (has_room (flags_of old)) turn (ended_run Dropped old.run) awake (free_lost turn old.run (free_settled turn old.run settled)),
    )

-- ---- something may go on

-- then memory was found, nothing ends the connection, and its child, where it has one, is settled
pub record GoesOn (e : Exchange) (conn : HttpConn) : Type 0 where
  pub on : ends_at conn e ≡ false
  pub settled : run_settled conn.run ≡ true
  pub at : AptAt conn e conn.stage
  pub must : must_go conn.stage (outcome_of_run conn.run) ≡ false

module _ (L : List Item) (ev : Event) (acts : List Act) (turn : Turn) (e : Exchange) (old : HttpConn) (n : ℕ) (s : Standing L ev acts turn n e old) (two : 2 ≤ (site_of old).limits.head) where
  none_read : old.lost ≡ false → old.stage ≡ At.Reading → run_settled old.run ≡ true
  none_read found at = go old.run (known L ev acts turn n e old s found).runs
    where
      none : s.legs ≡ []
      none = (stage_at old e s.legs At.Reading at (s.staged found)).0.none

      go : (run : Option View) → KnowsRuns NoMore (site_of old) (number_of old) e false s.legs run → run_settled run ≡ true
      go None k = refl
      go (Some v) k = absurd (no_last k.older k.leg (sym none ∙ k.are))

  module _ (done : Bool) (same : ends_with old done ≡ ends_at old e) where
    turn_on : has_turn old done ≡ true → (ends_at old e ≡ false) × (run_settled old.run ≡ true) × (has_room (flags_of old) ≡ true)
    turn_on is =
        let p = and_parts (not (ends_with old done) && run_settled old.run) (has_room (flags_of old)) is in
        let r = and_parts (not (ends_with old done)) (run_settled old.run) p.0 in
        (sym same ∙ not-true (ends_with old done) r.0, r.1, p.1)

    goes_on_at : (t : Stage) → old.stage ≡ t → goes_at old done t ≡ true → GoesOn e old
    goes_on_at At.Reading at is =
        let on : ends_at old e ≡ false = sym same ∙ not-true (ends_with old done) (and_parts (not (ends_with old done)) (not (is_looked_at old.request)) is).0 in
        record {
          on = on;
          settled = none_read (going old _ on).found at;
          at = subst (λ (x : Stage). AptAt old e x) (sym at) tt;
          must = ap (λ (x : Stage). must_go x (outcome_of_run old.run)) at;
        }
    goes_on_at (At.Refused cause) at is =
        let t = turn_on is in
        record { on = t.0; settled = t.1; at = subst (λ (x : Stage). AptAt old e x) (sym at) tt; must = ap (λ (x : Stage). must_go x (outcome_of_run old.run)) at }
    goes_on_at (At.Unstarted hop request) at is =
        let t = turn_on is in
        record { on = t.0; settled = t.1; at = subst (λ (x : Stage). AptAt old e x) (sym at) tt; must = ap (λ (x : Stage). must_go x (outcome_of_run old.run)) at }
    goes_on_at _ at is = absurd (false≢true is)

  pub goes_on : TellsMore old true → GoesOn e old
  goes_on m = goes_on_at m.done (ends_same old e two s.front m.done m.tells) old.stage refl (sym m.is)

  pub apt_on : Quiet e old → GoesOn e old → Apt e old
  apt_on q g = record {
    unover = q.unover;
    found = λ found. record {
      at = g.at;
      goes = λ must. absurd (false≢true (sym g.must ∙ must));
      let_on = λ u first awaited. g.on;
    };
  }

  -- ---- a hop has its turn

  module _ (awake : IsAwake turn) (q : Quiet e old) (free : may_lose turn old.run ≡ true) (stamp : Option ℕ) (clock : stamp ≡ last_secs (L ++ In ev ∷ [])) (moves : List Move) (new : HttpConn)
      (form : are_given (flags_of old) (acts_of moves) ≡ true) where
    by_turn : (b : Bool) → (done : Bool) → ends_with old done ≡ ends_at old e → b ≡ has_turn old done → BeginsBy b stamp old n moves new → Leaves Rest L ev acts e old n moves new
    by_turn false done same is none = leaves_none Rest L ev acts turn e old new n moves s none (awake, q, even_free (has_room (flags_of old)) turn old.run awake free)
    by_turn true done same is (the_one w) =
        let t = turn_on done same (sym is) in
        then_leaves (Part (MakesHopReady stamp)) GivesHop (HopReady turn) Rest L ev acts e old new n moves w form
        (λ xs mid p f. leaves_made (MakesHopReady stamp) (HopReady turn) L ev acts turn e old mid n xs s p f (hops_make L ev acts turn e old n s two q t.0 t.1 t.2 stamp clock xs mid p.by))
        (λ acts' t' d mid n' ys st post site by f.
        gives_hop_leave L ev acts' turn d mid n' (subst (λ (x : Turn). Standing L ev acts' x n' d mid) post.same st) (subst (λ (x : Site). 2 ≤ x.limits.head) (sym site) two) awake
        (subst (λ (x : Turn). HopReady turn x d mid) post.same post) ys new f by)
    by_turn true done same is (the_other p) =
        let t = turn_on done same (sym is) in
        let g : Going old (is_done_with old (request_bytes (number_of old) e)) = going old (is_done_with old (request_bytes (number_of old) e)) t.0 in
        leaves_made LosesHop Rest L ev acts turn e old new n moves s p form (gives_up g t.1 p.by.loses)
      where
        gives_up : Going old (is_done_with old (request_bytes (number_of old) e)) → run_settled old.run ≡ true → Loses old n moves new → Makes Rest L ev acts e old n moves new
        gives_up g settled l = lose_on L ev acts turn e old n s awake q g settled moves new l

    pub begins_leave : Begins stamp old n moves new → Leaves Rest L ev acts e old n moves new
    begins_leave b = by_turn b.turn b.tells.done (ends_same old e two s.front b.tells.done b.tells.tells) b.tells.is b.by

-- ---- rounds

pub round_leave : (L : List Item) (ev : Event) (acts : List Act) (turn : Turn) (e : Exchange) (old new : HttpConn) (n : ℕ) (moves : List Move) (stamp : Option ℕ) → Standing L ev acts turn n e old
    → 2 ≤ (site_of old).limits.head → stamp ≡ last_secs (L ++ In ev ∷ []) → Rest turn e old → Round stamp old n moves new → are_given (flags_of old) (acts_of moves) ≡ true
    → Leaves Rest L ev acts e old n moves new
round_leave L ev acts turn e old new n moves stamp s two clock rest r form =
    let g : GoesOn e old = goes_on L ev acts turn e old n s two r.more in
    then_leaves (Answers stamp) (Begins stamp) (Within turn Quiet) Rest L ev acts e old new n moves r.does form
    (λ xs mid w f. answers_leave L ev acts turn e old mid n xs stamp s two clock (apt_on L ev acts turn e old n s two rest.1 g) (free_settled turn old.run g.settled) w f)
    (λ acts' t d mid n' ys st post site b f.
    begins_leave L ev acts' turn d mid n' (subst (λ (x : Turn). Standing L ev acts' x n' d mid) post.0 st) (subst (λ (x : Site). 2 ≤ x.limits.head) (sym site) two) rest.0 post.2 post.1 stamp clock ys new f b)

pub rounds_leave : (turns : ℕ) (L : List Item) (ev : Event) (acts : List Act) (turn : Turn) (e : Exchange) (old new : HttpConn) (n : ℕ) (moves : List Move) (stamp : Option ℕ)
    → Standing L ev acts turn n e old → 2 ≤ (site_of old).limits.head → stamp ≡ last_secs (L ++ In ev ∷ []) → Rest turn e old → Rounds turns stamp old n moves new
    → are_given (flags_of old) (acts_of moves) ≡ true → Leaves Rest L ev acts e old n moves new
rounds_leave zero L ev acts turn e old new n moves stamp s two clock rest none form = leaves_none Rest L ev acts turn e old new n moves s none rest
rounds_leave (suc turns) L ev acts turn e old new n moves stamp s two clock rest w form =
    then_leaves (Rounds turns stamp) (Round stamp) Rest Rest L ev acts e old new n moves w form
    (λ xs mid v f. rounds_leave turns L ev acts turn e old mid n xs stamp s two clock rest v f)
    (λ acts' t d mid n' ys st post site r f. round_leave L ev acts' t d mid new n' ys stamp st (subst (λ (x : Site). 2 ≤ x.limits.head) (sym site) two) clock post r f)

-- .. until nothing may go on
pub rounds_on_leave : (L : List Item) (ev : Event) (acts : List Act) (turn : Turn) (e : Exchange) (old new : HttpConn) (n : ℕ) (moves : List Move) (stamp : Option ℕ)
    → Standing L ev acts turn n e old → 2 ≤ (site_of old).limits.head → stamp ≡ last_secs (L ++ In ev ∷ []) → Rest turn e old → RoundsOn stamp old n moves new
    → are_given (flags_of old) (acts_of moves) ≡ true → Leaves Rest L ev acts e old n moves new
rounds_on_leave L ev acts turn e old new n moves stamp s two clock rest r form =
    then_leaves (Rounds r.turns stamp) (Or Nothing (Part LosesTurn)) Rest Rest L ev acts e old new n moves r.does form
    (λ xs mid v f. rounds_leave r.turns L ev acts turn e old mid n xs stamp s two clock rest v f)
    (λ acts' t d mid n' ys st post site by f. ends_rounds acts' t d mid n' ys st post (subst (λ (x : Site). 2 ≤ x.limits.head) (sym site) two) by f)
  where
    ends_rounds : (acts' : List Act) (t : Turn) (d : Exchange) (mid : HttpConn) (n' : ℕ) (ys : List Move) → Standing L ev acts' t n' d mid → Rest t d mid → 2 ≤ (site_of mid).limits.head
        → Or Nothing (Part LosesTurn) mid n' ys new → are_given (flags_of mid) (acts_of ys) ≡ true → Leaves Rest L ev acts' d mid n' ys new
    ends_rounds acts' t d mid n' ys st post two' (the_one none) f = leaves_none Rest L ev acts' t d mid new n' ys st none post
    ends_rounds acts' t d mid n' ys st post two' (the_other p) f =
        let g : GoesOn d mid = goes_on L ev acts' t d mid n' st two' p.by.more in
        leaves_made LosesTurn Rest L ev acts' t d mid new n' ys st p f
        (lose_on L ev acts' t d mid n' st post.0 post.1 (going mid (is_done_with mid (request_bytes (number_of mid) d)) g.on) g.settled ys new p.by.loses)

-- Answers, handles the child, and begins whatever may begin, until nothing may.
pub serves_leave : (L : List Item) (ev : Event) (e : Exchange) (old new : HttpConn) (n : ℕ) (moves : List Move) (stamp : Option ℕ) → Standing L ev [] waiting n e old
    → 2 ≤ (site_of old).limits.head → stamp ≡ last_secs (L ++ In ev ∷ []) → Apt e old → Serves stamp old n moves new → are_given (flags_of old) (acts_of moves) ≡ true
    → Leaves (λ t d c. Rest t d c × TellsMore c false) L ev [] e old n moves new
serves_leave L ev e old new n moves stamp s two clock apt w form =
    then_leaves (Answers stamp) (Then Handles (RoundsOn stamp)) (Within waiting Quiet) (λ t d c. Rest t d c × TellsMore c false) L ev [] e old new n moves w form
    (λ xs mid v f. answers_leave L ev [] waiting e old mid n xs stamp s two clock apt refl v f)
    (λ acts' t d mid n' ys st post site v f.
    let two' : 2 ≤ (site_of mid).limits.head = subst (λ (x : Site). 2 ≤ x.limits.head) (sym site) two in
    then_leaves Handles (RoundsOn stamp) Rest (λ t d c. Rest t d c × TellsMore c false) L ev acts' d mid new n' ys v f
    (λ xs next h g. handles_leave L ev acts' d mid next n' xs (subst (λ (x : Turn). Standing L ev acts' x n' d mid) post.0 st) two' post.2 h g)
    (λ acts'' t' d' next n'' zs st' rest site' r g.
    leaves_as Rest (λ t d c. Rest t d c × TellsMore c false) L ev acts'' d' next new n'' zs (λ t d p. (p, r.rests))
    (rounds_on_leave L ev acts'' t' d' next new n'' zs stamp st' (subst (λ (x : Site). 2 ≤ x.limits.head) (sym site') two') clock rest r g)))
