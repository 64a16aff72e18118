-- The client is asked, and a whole step.
use Rattle.std.proofs.Common.{◌≡◌, ◌≤◌, ℕ, ◌==◌, Bool, true, false, ◌&&◌, ◌||◌, not, List, [], ◌∷◌, ◌++◌, Option, Some, None, refl, sym, ap, ◌∙◌, subst}
use Rattle.std.specs.Prelude.{nat_le}
use Rattle.std.proofs.lemmas.Bool.{and_parts, eq-eqb, false≢true, not-true, or_left}
use Rattle.host_base.specs.declared.site.Site.{Site}
use Rattle.host_trace.specs.declared.items.Act.{Act}
use Rattle.host_trace.specs.declared.items.Act.TheVariants.{WantClient}
use Rattle.host_trace.specs.declared.items.Event.{Event}
use Rattle.host_trace.specs.declared.items.Item.{Item}
use Rattle.host_trace.specs.declared.items.Item.TheVariants.{In, Out}
use Rattle.host_trace.specs.Kinds.{is_client_answer}
use Rattle.host_trace.specs.Projections.{last_secs}
use Rattle.child_core.specs.declared.ending.Outcome.{Outcome}
use Rattle.child_core.specs.declared.ending.Outcome.TheVariants as Ended
use Rattle.trace_model.specs.Exchange.{Exchange, pushed, request_bytes}
use Rattle.trace_model.specs.Exchanges.{has_ended}
use Rattle.exchange_request.specs.Knows.{is_looked_at}
use Rattle.exchange_stage.specs.declared.stage.Leg.{Leg}
use Rattle.exchange_stage.specs.declared.stage.Stage.{Stage}
use Rattle.exchange_stage.specs.declared.stage.Stage.TheVariants as At
use Rattle.exchange_laws.proofs.UnansweredLaws.{awaited-quiet}
use Rattle.conn_flags.specs.View.{count_sent, has_room, less_by, more_by, noted, pending_after}
use Rattle.conn_flags.specs.Form.{are_given}
use Rattle.child_laws.specs.Step.{Turn, waiting}
use Rattle.child_laws.proofs.MoveLaws.{acts_move}
use Rattle.conn_laws.specs.Moves.{Move, acts_of, gives}
use Rattle.http_conn.specs.HttpConn.{HttpConn}
use Rattle.http_conn.specs.Kept.{StandsFor, flags_of, number_of, site_of}
use Rattle.http_conn.specs.Ready.{outcome_of_run}
use Rattle.http_conn.specs.Reasons.{ends_with, hears_at, is_done_with}
use Rattle.http_conn.specs.Slot.{run_settled}
use Rattle.http_stage_laws.proofs.ItemLaws.{others_staged}
use Rattle.http_conn.specs.Parts.{Closes, Part, Serves, Steps, Then, Wants, WantsBy}
use Rattle.http_stage_laws.proofs.StartWords.{first_quiet}
use Rattle.http_step_laws.specs.Standing.{Apt, EvenAt, Leaves, Makes, QuietBy, Rest, RunQuiet, Standing, ends_at, is_early}
use Rattle.http_conn.specs.Tells.{TellsMore, goes_at, has_turn}
use Rattle.http_step_laws.proofs.AskWords.{is_within, unended}
use Rattle.http_step_laws.proofs.CloseLaws.{Closed, closes_leave}
use Rattle.http_step_laws.proofs.QuietWords.{calm_quiet}
use Rattle.http_step_laws.proofs.ShutWords.{some_answered}
use Rattle.http_step_laws.proofs.EndWords.{Going, accepted_of, ends_same, going}
use Rattle.http_step_laws.proofs.BodyWords.{heard_push}
use Rattle.http_step_laws.proofs.PushWords.{bytes_quiet}
use Rattle.http_step_laws.proofs.RoundLaws.{serves_leave}
use Rattle.http_step_laws.proofs.QuietWords.{quiet_goes_on}
use Rattle.http_step_laws.proofs.StageWords.{staged_run}
use Rattle.http_step_laws.proofs.ThenLaws.{leaves_made, leaves_none, then_leaves}

-- what is known at the end of a step: where the client is to be heard it was asked
pub record Done (turn : Turn) (e : Exchange) (conn : HttpConn) : Type 0 where
  pub closed : Closed turn e conn
  pub asked : ends_at conn e ≡ false → has_room (flags_of conn) ≡ true → hears_at conn conn.stage ≡ true → (flags_of conn).asked ≡ true

module _ (L : List Item) (ev : Event) (acts : List Act) (turn : Turn) (e : Exchange) (old : HttpConn) (n : ℕ) (s : Standing L ev acts turn n e old) (two : 2 ≤ (site_of old).limits.head)
    (c : Closed turn e old) (on : ends_at old e ≡ false) (hears : hears_at old old.stage ≡ true) where
  abbrev act : Act
  act = WantClient (number_of old)

  abbrev mid : HttpConn
  mid = record old { flags = noted (flags_of old) (Out act) }

  abbrev later : Exchange
  later = pushed e (Out act)

  g : Going old (is_done_with old (request_bytes (number_of old) e))
  g = going old _ on

  found : old.lost ≡ false
  found = g.found

  ended_not : has_ended (site_of old) (number_of old) e ≡ false
  ended_not = quiet_goes_on L ev acts turn e old n s c.rest.1

  bytes_same : request_bytes (number_of old) later ≡ request_bytes (number_of old) e
  bytes_same = bytes_quiet (number_of old) e (Out act) refl

  ends_then : ends_at mid later ≡ ends_at old e
  ends_then = ap (λ (b : List ℕ). ends_with old (is_done_with old b)) bytes_same

  pending_same : pending_after (flags_of old) (Out act) ≡ (flags_of old).pending
  pending_same = ap (λ (b : Bool). less_by 0 (more_by (count_sent b (number_of old) (Out act)) (flags_of old).pending)) s.inward.http

  room_same : has_room (flags_of mid) ≡ has_room (flags_of old)
  room_same = ap (λ (p : ℕ). (flags_of old).shut || nat_le p 262144) pending_same

  run_quiet : (leg : Leg) (o : Option Outcome) → RunQuiet old e leg o → RunQuiet mid later leg o
  run_quiet leg None r = (r.0, r.1, ends_then ∙ r.2)
  run_quiet leg (Some Ended.Output) r = r
  run_quiet leg (Some _) r = ends_then ∙ r

  quiet_at : (t : Stage) → QuietBy old e t → QuietBy mid later t
  quiet_at (At.Running leg) q = (q.0, run_quiet leg (outcome_of_run old.run) q.1)
  quiet_at (At.Rejected cause bare) q = q
  quiet_at (At.Interrupted cause) q = q
  quiet_at (At.Starting leg launch body whole) q = q
  quiet_at (At.Finishing text closes) q = q
  quiet_at _ q = tt

  turn_same : has_turn mid (is_done_with mid (request_bytes (number_of old) later)) ≡ has_turn old (is_done_with old (request_bytes (number_of old) e))
  turn_same =
      ap (λ (b : Bool). not b && run_settled old.run && has_room (flags_of mid)) ends_then ∙ ap (λ (b : Bool). not (ends_at old e) && run_settled old.run && b) room_same

  goes_same : (t : Stage) → goes_at mid (is_done_with mid (request_bytes (number_of old) later)) t ≡ goes_at old (is_done_with old (request_bytes (number_of old) e)) t
  goes_same At.Reading = ap (λ (b : Bool). not b && not (is_looked_at old.request)) ends_then
  goes_same (At.Refused cause) = turn_same
  goes_same (At.Unstarted hop request) = turn_same
  goes_same _ = refl

  asks_make : Makes Done L ev acts e old n (gives act ∷ []) mid
  asks_make = record {
    in_step = (ended_not, tt);
    right = (record { start = refl; in_turn = refl; upgrade = refl; may = refl }, tt);
    turn = turn;
    over = s.over;
    legs = s.legs;
    staged = λ f.
        staged_run old (flags_of mid) old.run later s.legs refl refl
        (others_staged old e s.legs act two (s.staged f) (calm_quiet old e s.legs old.stage (λ at. some_answered L ev acts turn e old n s c.rest.1.unover at) (c.rest.1.found f).quiet) refl refl);
    lost = λ is. absurd (false≢true (sym found ∙ is));
    memory = λ is. absurd (false≢true (sym found ∙ is));
    children = acts_move (site_of old) (number_of old) L ev acts e s.over act (is_early old) turn n s.legs old.run two refl refl ended_not s.children;
    heard = λ f. let h = heard_push old e (Out act) refl (s.heard f) in record { bodies = h.bodies; looked = h.looked; handed = h.handed };
    inward = record {
      calm = s.inward.calm;
      calm_found = s.inward.calm_found;
      accepted = s.inward.accepted;
      http = s.inward.http;
      lost_in = s.inward.lost_in;
      decided = s.inward.decided;
      left = s.inward.left;
      cut_is = s.inward.cut_is;
      held = s.inward.held;
      stays = s.inward.stays;
      closes_is = s.inward.closes_is;
      room = s.inward.room;
      asked = λ is. (accepted_of old _ g, unended L ev acts turn e old n s c on hears);
      within = λ f open_yet either. let was = is_within L ev acts turn e old n s c on hears in record { untaken = was.untaken; looked = was.looked };
      past = s.inward.past;
    };
    starts_first = first_quiet e (Out act) (λ k. refl) s.starts_first;
    accepted = accepted_of old _ g;
    post = record {
      asked = λ on room hears. or_left (number_of old == number_of old) (not (is_client_answer (number_of old) (Out act)) && (flags_of old).asked) (eq-eqb (number_of old) (number_of old) refl);
      closed = record {
        rest = (
          c.rest.0,
          record {
            unover = c.rest.1.unover;
            found = λ f. record {
              quiet = quiet_at old.stage (c.rest.1.found f).quiet;
              let_on = λ u first awaited.
                  let was = (c.rest.1.found f).let_on u first (sym (awaited-quiet (site_of old) (number_of old) e (Out act) refl) ∙ awaited) in
                  (ends_then ∙ was.0, was.1, was.2);
            };
          },
          subst (λ (b : Bool). EvenAt b turn old.run) (sym room_same) c.rest.2,
        );
        shut_lost = c.shut_lost;
        on = λ live. ends_then ∙ c.on live;
        still = λ live. goes_same old.stage ∙ c.still live;
      };
    };
  }

asked_already : (ends room hears asked : Bool) → false ≡ (not ends && room && hears && not asked) → ends ≡ false → room ≡ true → hears ≡ true → asked ≡ true
asked_already true room hears asked e a b c = absurd (false≢true (sym a))
asked_already false false hears asked e a b c = absurd (false≢true b)
asked_already false true false asked e a b c = absurd (false≢true c)
asked_already false true true true e a b c = refl
asked_already false true true false e a b c = absurd (false≢true e)

-- It is asked where it must be heard.
pub wants_leave : (L : List Item) (ev : Event) (acts : List Act) (turn : Turn) (e : Exchange) (old new : HttpConn) (n : ℕ) (moves : List Move) → Standing L ev acts turn n e old → 2 ≤ (site_of old).limits.head
    → Closed turn e old → Part Wants old n moves new → are_given (flags_of old) (acts_of moves) ≡ true → Leaves Done L ev acts e old n moves new
wants_leave L ev acts turn e old new n moves s two c p form = by_due p.by.due refl p.by.by
  where
    by_due : (due : Bool) → p.by.due ≡ due → WantsBy due old n moves new → Leaves Done L ev acts e old n moves new
    by_due false is none = leaves_none Done L ev acts turn e old new n moves s none (record {
      closed = c;
      asked = λ on room hears.
          asked_already (ends_with old p.by.tells.done) (has_room (flags_of old)) (hears_at old old.stage) (flags_of old).asked (sym is ∙ p.by.tells.is)
          (ends_same old e two s.front p.by.tells.done p.by.tells.tells ∙ on) room hears;
    })
    by_due true is t =
        let p1 = and_parts (not (ends_with old p.by.tells.done) && has_room (flags_of old) && hears_at old old.stage) (not (flags_of old).asked) (sym p.by.tells.is ∙ is) in
        let p2 = and_parts (not (ends_with old p.by.tells.done) && has_room (flags_of old)) (hears_at old old.stage) p1.0 in
        let p3 = and_parts (not (ends_with old p.by.tells.done)) (has_room (flags_of old)) p2.0 in
        let on : ends_at old e ≡ false = sym (ends_same old e two s.front p.by.tells.done p.by.tells.tells) ∙ not-true (ends_with old p.by.tells.done) p3.0 in
        leaves_made Wants Done L ev acts turn e old new n moves s p form
        (subst (λ (l : List Move). Makes Done L ev acts e old n l new) (sym t.moves_are)
        (subst (λ (d : HttpConn). Makes Done L ev acts e old n (gives (WantClient (number_of old)) ∷ []) d) (sym t.is) (asks_make L ev acts turn e old n s two c on p2.1)))

-- ---- a whole step

-- more can't be done, as it is told of the bytes that were heard
pub still_of : (conn : HttpConn) (e : Exchange) → 2 ≤ (site_of conn).limits.head → StandsFor conn e → TellsMore conn false → goes_at conn (is_done_with conn (request_bytes (number_of conn) e)) conn.stage ≡ false
still_of conn e two front m = go conn.stage ∙ sym m.is
  where
    same : ends_with conn m.done ≡ ends_at conn e
    same = ends_same conn e two front m.done m.tells

    go : (t : Stage) → goes_at conn (is_done_with conn (request_bytes (number_of conn) e)) t ≡ goes_at conn m.done t
    go At.Reading = ap (λ (b : Bool). not b && not (is_looked_at conn.request)) (sym same)
    go (At.Refused cause) = ap (λ (b : Bool). not b && run_settled conn.run && has_room (flags_of conn)) (sym same)
    go (At.Unstarted hop request) = ap (λ (b : Bool). not b && run_settled conn.run && has_room (flags_of conn)) (sym same)
    go _ = refl

-- Behind an event all is done that is due, and it keeps step with the model.
pub steps_leave : (L : List Item) (ev : Event) (e : Exchange) (old new : HttpConn) (n : ℕ) (moves : List Move) (stamp : Option ℕ) → Standing L ev [] waiting n e old → 2 ≤ (site_of old).limits.head
    → stamp ≡ last_secs (L ++ In ev ∷ []) → Apt e old → Steps stamp old n moves new → are_given (flags_of old) (acts_of moves) ≡ true → Leaves Done L ev [] e old n moves new
steps_leave L ev e old new n moves stamp s two clock apt w form =
    then_leaves (Serves stamp) (Then (Part Closes) (Part Wants)) (λ t d c. Rest t d c × TellsMore c false) Done L ev [] e old new n moves w form
    (λ xs mid v f. serves_leave L ev e old mid n xs stamp s two clock apt v f)
    (λ acts' t d mid n' ys st post site v f.
    let two' : 2 ≤ (site_of mid).limits.head = subst (λ (x : Site). 2 ≤ x.limits.head) (sym site) two in
    then_leaves (Part Closes) (Part Wants) Closed Done L ev acts' d mid new n' ys v f
    (λ xs next p g. closes_leave L ev acts' t d mid next n' xs st two' post.0 (still_of mid d two' st.front post.1) p g)
    (λ acts'' t' d' next n'' zs st' closed site' p g. wants_leave L ev acts'' t' d' next new n'' zs st' (subst (λ (x : Site). 2 ≤ x.limits.head) (sym site') two') closed p g))
