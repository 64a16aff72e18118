-- What is known before what is ready of an answer is given.
use Rattle.std.proofs.Common.{◌≡◌, ◌≤◌, ℕ, true, false, ◌||◌, List, [], ◌++◌, refl, sym, ◌∙◌, subst, append-nil}
use Rattle.std.proofs.lemmas.Bool.{false≢true}
use Rattle.host_trace.specs.declared.items.Act.{Act}
use Rattle.host_trace.specs.declared.items.Event.{Event}
use Rattle.host_trace.specs.declared.items.Item.{Item}
use Rattle.trace_model.specs.Exchange.{Exchange, request_bytes}
use Rattle.exchange_request.specs.Knows.{is_looked_at}
use Rattle.exchange_laws.specs.Rules.{IsUnended, WritesInTurn}
use Rattle.exchange_laws.proofs.TurnLaws.{writes_come_in_turn}
use Rattle.child_laws.specs.Step.{Turn}
use Rattle.child_laws.specs.Moves.{Deals, may_lose}
use Rattle.conn_laws.specs.Moves.{Move}
use Rattle.http_conn.specs.HttpConn.{HttpConn}
use Rattle.http_conn.specs.Kept.{number_of, site_of}
use Rattle.http_conn.specs.Reasons.{is_done_with}
use Rattle.http_conn.specs.Parts.{Loses}
use Rattle.http_step_laws.specs.Standing.{Makes, Quiet, Ready, Standing, Within, ends_at, is_early}
use Rattle.http_step_laws.proofs.EndWords.{Going, accepted_of, going, unshut_of}
use Rattle.http_step_laws.proofs.LossLaws.{lost_with, loses, over_lost, posts_lost}
use Rattle.http_step_laws.proofs.StageWords.{free_lost, more_in, stage_is, unwhole}

module _ (L : List Item) (ev : Event) (acts : List Act) (turn : Turn) (e : Exchange) (old : HttpConn) (n : ℕ) (s : Standing L ev acts turn n e old) (two : 2 ≤ (site_of old).limits.head)
    (ready : Ready e old) (free : may_lose turn old.run ≡ true) (on : ends_at old e ≡ false) where
  abbrev bytes : List ℕ
  bytes = request_bytes (number_of old) e

  g : Going old (is_done_with old bytes)
  g = going old (is_done_with old bytes) on

  pub in_turn : WritesInTurn (site_of old) (number_of old) e s.legs old.continued (is_looked_at old.request) (old.closing || old.closes) (more_in old e s.legs (s.staged ready.found)) old.stage
  in_turn =
      writes_come_in_turn (site_of old) (number_of old) e s.legs old.continued (is_looked_at old.request) (old.closing || old.closes) (more_in old e s.legs (s.staged ready.found)) old.stage two
      (stage_is old e s.legs (s.staged ready.found))

  pub deals_same : Deals (site_of old) (number_of old) L ev (acts ++ []) e s.over (is_early old) turn n s.legs old.run
  deals_same = subst (λ (l : List Act). Deals (site_of old) (number_of old) L ev l e s.over (is_early old) turn n s.legs old.run) (sym (append-nil acts)) s.children

  -- a text that is lost
  pub gives_lost : (new : HttpConn) (moves : List Move) → IsUnended (site_of old) (number_of old) e s.legs old.stage → Loses old n moves new → Makes (Within turn Quiet) L ev acts e old n moves new
  gives_lost new moves unended l =
      loses (Within turn Quiet) L ev acts turn e old n s (record {
        found = ready.found;
        free = free;
        unshut = unshut_of old (is_done_with old bytes) g;
        unwhole = λ none. unwhole old e s.legs (s.staged ready.found) unended none;
      }) new moves l.none l.gives_up (λ idle. absurd (false≢true (sym g.calm ∙ idle))) (accepted_of old (is_done_with old bytes) g)
      (refl, free_lost turn old.run free, (posts_lost e (lost_with old new.stage new.request) refl (over_lost old new.stage new.request l.gives_up.answered ∙ ready.unover)).quiet)
