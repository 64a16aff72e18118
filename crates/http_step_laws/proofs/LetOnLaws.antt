-- 100 Continue is written where it is due.
use Rattle.std.proofs.Common.{◌≡◌, ◌≤◌, ℕ, Bool, true, false, ◌&&◌, ◌||◌, not, List, [], ◌∷◌, refl, sym, ap, ◌∙◌, subst}
use Rattle.std.proofs.lemmas.Bool.{and_from, and_parts, false≢true, false_from_ne_true, not-true, or_parts, true_from_ne_false}
use Rattle.std.proofs.lemmas.List.Folds.{list_any-append}
use Rattle.host_base.specs.declared.limits.Limits.{Limits}
use Rattle.host_trace.specs.declared.items.Act.{Act}
use Rattle.host_trace.specs.declared.items.Act.TheVariants.{Write}
use Rattle.host_trace.specs.declared.items.Event.{Event}
use Rattle.host_trace.specs.declared.items.Item.{Item}
use Rattle.host_trace.specs.declared.items.Item.TheVariants.{Out}
use Rattle.host_trace.specs.Kinds.{is_shut}
use Rattle.host_trace.specs.Projections.{shut}
use Rattle.request_reader.specs.Request.{read_request}
use Rattle.trace_model.specs.Exchange.{Exchange, continue_text, pushed, reading, request_bytes}
use Rattle.trace_model.specs.Exchanges.{has_ended}
use Rattle.trace_model.specs.Readings.{is_bare, is_due}
use Rattle.exchange_request.specs.Knows.{is_looked_at, is_taken, reading_of}
use Rattle.exchange_stage.specs.declared.stage.Stage.{Stage}
use Rattle.exchange_stage.specs.declared.stage.Stage.TheVariants as At
use Rattle.exchange_laws.specs.Items.{is_unanswered}
use Rattle.exchange_laws.specs.StageIs.{StageIs}
use Rattle.exchange_laws.specs.Unanswered.{is_awaited, is_open}
use Rattle.exchange_laws.proofs.TurnLaws.{writes_come_in_turn}
use Rattle.exchange_laws.proofs.WholeLaws.{continues_come_first}
use Rattle.conn_laws.proofs.QuietLaws.{reading-quiet}
use Rattle.conn_flags.specs.Form.{are_given}
use Rattle.child_laws.specs.Step.{Turn}
use Rattle.child_laws.specs.Moves.{may_lose}
use Rattle.child_laws.proofs.MoveLaws.{acts_move}
use Rattle.conn_laws.specs.Front.{IsHeard}
use Rattle.conn_laws.specs.Moves.{Move, acts_of, continues}
use Rattle.http_conn.specs.HttpConn.{HttpConn}
use Rattle.http_conn.specs.Kept.{is_reading, flags_of, number_of, site_of}
use Rattle.http_conn.specs.Reasons.{ends_with, is_done_with}
use Rattle.http_conn.specs.Writes.{continued}
use Rattle.http_stage_laws.proofs.EndLaws.{continues_staged}
use Rattle.http_conn.specs.Parts.{Continues, LetsOn, LetsOnBy, Loses, Or, Part, the_one, the_other}
use Rattle.http_stage_laws.proofs.StartWords.{first_quiet}
use Rattle.http_step_laws.specs.Standing.{AptAt, Leaves, LetOn, Makes, Read, Standing, Within, ends_at, is_early}
use Rattle.http_step_laws.proofs.EndWords.{Going, accepted_of, ends_same, going, unclosed_of, unshut_of}
use Rattle.http_step_laws.proofs.LossLaws.{lost_with, loses, over_lost, posts_lost}
use Rattle.http_step_laws.proofs.BodyWords.{heard_push}
use Rattle.http_step_laws.proofs.PushWords.{bytes_quiet, unanswered_at, unanswered_unended}
use Rattle.http_step_laws.proofs.StageWords.{ended_found, free_lost, more_in, stage_is, unwhole}
use Rattle.http_step_laws.proofs.ThenLaws.{leaves_made, leaves_none}

module _ (L : List Item) (ev : Event) (acts : List Act) (turn : Turn) (e : Exchange) (old : HttpConn) (n : ℕ) (s : Standing L ev acts turn n e old) (two : 2 ≤ (site_of old).limits.head)
    (read : Read e old) (free : may_lose turn old.run ≡ true) where
  abbrev bytes : List ℕ
  bytes = request_bytes (number_of old) e

  -- what the request says of it
  due_is : (found : old.lost ≡ false) → e.closed ≡ false → is_due (reading_of old.request bytes) ≡ is_due (reading (site_of old) (number_of old) e)
  due_is found unclosed = ap (λ (l : Limits). is_due (read_request l bytes)) s.front.limits

  -- ---- it is due

  module _ (g : Going old (is_done_with old bytes)) (first : old.continued ≡ false) (awaits : is_due (reading (site_of old) (number_of old) e) ≡ true) where
    unclosed : e.closed ≡ false
    unclosed = unclosed_of old e (is_done_with old bytes) s.front g

    open_before : shut e.before (number_of old) ≡ false
    open_before =
        (or_parts (shut e.before (number_of old)) (shut e.items (number_of old))
        (sym (list_any-append (is_shut (number_of old)) e.before e.items) ∙ (sym s.flags.shut ∙ unshut_of old (is_done_with old bytes) g))).0

    awaited : is_awaited (site_of old) (number_of old) e ≡ true
    awaited = and_from (is_open (number_of old) e) _ (and_from (not e.closed) (not (shut e.before (number_of old))) (ap not unclosed) (ap not open_before)) awaits

    staged_first : StageIs (site_of old) (number_of old) e s.legs false (is_looked_at old.request) (old.closing || old.closes) (more_in old e s.legs (s.staged g.found)) old.stage
    staged_first =
        subst (λ (b : Bool). StageIs (site_of old) (number_of old) e s.legs b (is_looked_at old.request) (old.closing || old.closes) (more_in old e s.legs (s.staged g.found)) old.stage) first
        (stage_is old e s.legs (s.staged g.found))

    unanswered : is_unanswered old.stage ≡ true
    unanswered = true_from_ne_false (is_unanswered old.stage) (λ so.
        false≢true (sym (continues_come_first (site_of old) (number_of old) e s.legs (is_looked_at old.request) (old.closing || old.closes) (more_in old e s.legs (s.staged g.found)) old.stage staged_first so) ∙ awaited))

    on : has_ended (site_of old) (number_of old) e ≡ false
    on = ended_found L ev acts turn n e old s g.found (unanswered_unended (site_of old) (number_of old) e s.legs old.stage unanswered) ∙ read.apt.unover

    abbrev after : Exchange
    after = pushed e (Out (Write (number_of old) continue_text))

    abbrev mid : HttpConn
    mid = continued true old

    apt_after : (t : Stage) → is_unanswered t ≡ true → AptAt old e t → AptAt mid after t
    apt_after At.Reading u a = tt
    apt_after (At.Rejected cause bare) u a = tt
    apt_after (At.Interrupted cause) u a = a ∙ ap is_bare (sym (reading-quiet (site_of old) (number_of old) e (Out (Write (number_of old) continue_text)) refl))
    apt_after (At.Refused cause) u a = tt
    apt_after (At.Unstarted hop request) u a = tt
    apt_after _ u a = absurd (false≢true u)

    ends_after : ends_at mid after ≡ ends_at old e
    ends_after = ap (λ (b : List ℕ). ends_with old (is_done_with old b)) (bytes_quiet (number_of old) e (Out (Write (number_of old) continue_text)) refl)

    continues_makes : Makes (Within turn LetOn) L ev acts e old n (continues (number_of old) ∷ []) mid
    continues_makes = record {
      in_step = (on, (unanswered_at (site_of old) (number_of old) e s.legs false (is_looked_at old.request) (old.closing || old.closes) (more_in old e s.legs (s.staged g.found)) old.stage staged_first unanswered).wrote_only, tt);
      right = (
        (writes_come_in_turn (site_of old) (number_of old) e s.legs old.continued (is_looked_at old.request) (old.closing || old.closes) (more_in old e s.legs (s.staged g.found)) old.stage two
            (stage_is old e s.legs (s.staged g.found))).continues_then unanswered first awaited,
        tt,
      );
      turn = turn;
      over = s.over;
      legs = s.legs;
      staged = λ f. continues_staged old e s.legs two (s.staged g.found) unanswered first awaited;
      lost = λ is. absurd (false≢true (sym g.found ∙ is));
      memory = λ is. absurd (false≢true (sym g.found ∙ is));
      children = acts_move (site_of old) (number_of old) L ev acts e s.over (Write (number_of old) continue_text) (is_early old) turn n s.legs old.run two refl refl on s.children;
      heard = λ f. let h = heard_push old e (Out (Write (number_of old) continue_text)) refl (s.heard f) in record { bodies = h.bodies; looked = h.looked; handed = h.handed };
      inward = record {
        calm = s.inward.calm;
        calm_found = s.inward.calm_found;
        accepted = s.inward.accepted;
        cut_is = s.inward.cut_is;
        held = s.inward.held;
        http = s.inward.http;
        lost_in = s.inward.lost_in;
        decided = s.inward.decided;
        left = s.inward.left;
        stays = s.inward.stays;
        closes_is = s.inward.closes_is;
        room = s.inward.room;
        asked = s.inward.asked;
        within = λ f open_yet either. let was = s.inward.within f open_yet either in record { untaken = was.untaken; looked = was.looked };
        past = s.inward.past;
      };
      starts_first = first_quiet e (Out (Write (number_of old) continue_text)) (λ k. refl) s.starts_first;
      accepted = accepted_of old (is_done_with old bytes) g;
      post = (
        refl,
        free,
        record {
          read = record {
            apt = record {
              unover = read.apt.unover;
              found = λ f. record {
                at = apt_after old.stage unanswered (read.apt.found f).at;
                goes = λ m. ends_after ∙ (read.apt.found f).goes m;
                let_on = λ u c w. absurd (false≢true (sym c));
              };
            };
            looked = λ f o. read.looked f (sym ends_after ∙ o);
          };
          none = λ f u c. absurd (false≢true (sym c));
        },
      );
    }

    by_way : (new : HttpConn) (moves : List Move) → Or Continues Loses old n moves new → Makes (Within turn LetOn) L ev acts e old n moves new
    by_way new moves (the_one t) =
        subst (λ (l : List Move). Makes (Within turn LetOn) L ev acts e old n l new) (sym t.moves_are)
        (subst (λ (c : HttpConn). Makes (Within turn LetOn) L ev acts e old n (continues (number_of old) ∷ []) c) (sym t.is) continues_makes)
    by_way new moves (the_other l) =
        loses (Within turn LetOn) L ev acts turn e old n s (record {
          found = g.found;
          free = free;
          unshut = unshut_of old (is_done_with old bytes) g;
          unwhole = λ none. unwhole old e s.legs (s.staged g.found) (unanswered_unended (site_of old) (number_of old) e s.legs old.stage unanswered) none;
        }) new moves l.none l.gives_up (λ idle. absurd (false≢true (sym g.calm ∙ idle))) (accepted_of old (is_done_with old bytes) g)
        (refl, free_lost turn old.run free, (posts_lost e (lost_with old new.stage new.request) refl (over_lost old new.stage new.request l.gives_up.answered ∙ read.apt.unover)).let_on)

  -- ---- by whether it is due

  both_due : (ends waits first : Bool) → ends ≡ false → waits ≡ true → first ≡ false → (not ends && waits && not first) ≡ true
  both_due ends waits first a b c = and_from (not ends && waits) (not first) (and_from (not ends) waits (ap not a) b) (ap not c)

  module _ (moves : List Move) (new : HttpConn) (p : Part LetsOn old n moves new) (form : are_given (flags_of old) (acts_of moves) ≡ true) where
    ends_now : ends_with old p.by.tells.done ≡ ends_at old e
    ends_now = ends_same old e two s.front p.by.tells.done p.by.tells.tells

    told : (found : old.lost ≡ false) → e.closed ≡ false → (is_looked_at old.request || is_taken old.request) ≡ true
        → p.by.tells.awaited ≡ is_due (reading (site_of old) (number_of old) e)
    told found unclosed looked =
        let h : IsHeard old.request (is_reading old.stage) bytes = s.front.request found unclosed in
        p.by.tells.awaits bytes h.taken h.knows looked ∙ due_is found unclosed

    by_due : (due : Bool) → p.by.due ≡ due → LetsOnBy due old n moves new → Leaves (Within turn LetOn) L ev acts e old n moves new
    by_due false is none = leaves_none (Within turn LetOn) L ev acts turn e old new n moves s none (refl, free, record { read = read; none = unawaited })
      where
        unawaited : old.lost ≡ false → is_unanswered old.stage ≡ true → old.continued ≡ false → is_awaited (site_of old) (number_of old) e ≡ false
        unawaited found u first = false_from_ne_true (is_awaited (site_of old) (number_of old) e) (λ w.
            let on : ends_at old e ≡ false = (read.apt.found found).let_on u first w in
            let g : Going old (is_done_with old bytes) = going old (is_done_with old bytes) on in
            let due : is_due (reading (site_of old) (number_of old) e) ≡ true = (and_parts (is_open (number_of old) e) _ w).1 in
            let awaits : p.by.tells.awaited ≡ true = told found (unclosed_of old e (is_done_with old bytes) s.front g) (read.looked found on) ∙ due in
            false≢true (sym is ∙ (p.by.tells.is ∙ both_due (ends_with old p.by.tells.done) p.by.tells.awaited old.continued (ends_now ∙ on) awaits first)))
    by_due true is by =
        let both = and_parts (not (ends_with old p.by.tells.done) && p.by.tells.awaited) (not old.continued) (sym p.by.tells.is ∙ is) in
        let parts = and_parts (not (ends_with old p.by.tells.done)) p.by.tells.awaited both.0 in
        let on : ends_at old e ≡ false = sym ends_now ∙ not-true (ends_with old p.by.tells.done) parts.0 in
        let g : Going old (is_done_with old bytes) = going old (is_done_with old bytes) on in
        let awaits : is_due (reading (site_of old) (number_of old) e) ≡ true = sym (told g.found (unclosed_of old e (is_done_with old bytes) s.front g) (read.looked g.found on)) ∙ parts.1 in
        leaves_made LetsOn (Within turn LetOn) L ev acts turn e old new n moves s p form (by_way g (not-true old.continued both.1) awaits new moves by)

    pub lets_on_leave : Leaves (Within turn LetOn) L ev acts e old n moves new
    lets_on_leave = by_due p.by.due refl p.by.by
