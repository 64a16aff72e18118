-- The connection is shut.
use Rattle.std.proofs.Common.{◌≡◌, ◌≤◌, ℕ, true, false, ◌&&◌, ◌||◌, not, List, [], ◌∷◌, Option, Some, None, refl, sym, ap, ◌∙◌, subst, ◌==◌, inr}
use Rattle.std.proofs.lemmas.Bool.{and_from, and_parts, false≢true, true_from_ne_false, eq-eqb, or_left}
use Rattle.host_trace.specs.declared.items.Act.{Act}
use Rattle.host_trace.specs.declared.items.Act.TheVariants.{Shut}
use Rattle.host_trace.specs.declared.items.Event.{Event}
use Rattle.host_trace.specs.declared.items.Item.{Item}
use Rattle.host_trace.specs.declared.items.Item.TheVariants.{Out}
use Rattle.host_trace.specs.declared.items.Why.{Why}
use Rattle.host_trace.specs.Kinds.{is_no_memory}
use Rattle.child_core.specs.View.{View}
use Rattle.trace_model.specs.Exchange.{Exchange, pushed, request_bytes}
use Rattle.exchange_laws.proofs.UnansweredLaws.{awaited-quiet}
use Rattle.conn_flags.specs.View.{has_room, is_live, noted}
use Rattle.conn_flags.specs.Form.{are_given}
use Rattle.child_laws.specs.Step.{Turn}
use Rattle.conn_laws.specs.Moves.{Move, acts_of, gives}
use Rattle.http_conn.specs.HttpConn.{HttpConn}
use Rattle.http_conn.specs.Kept.{flags_of, number_of, site_of}
use Rattle.http_conn.specs.Moves.{given_up_by}
use Rattle.http_conn.specs.Ready.{outcome_of_run}
use Rattle.http_conn.specs.Reasons.{is_done_with, why_of}
use Rattle.http_conn.specs.Settles.{is_answered}
use Rattle.http_conn.specs.Slot.{run_settled}
use Rattle.http_stage_laws.proofs.ItemLaws.{others_staged}
use Rattle.http_conn.specs.Parts.{Closes, Part, ShutsBy}
use Rattle.http_stage_laws.specs.Inward.{CutIs, IsDecided, is_left}
use Rattle.http_stage_laws.proofs.StartWords.{first_quiet}
use Rattle.http_step_laws.specs.Standing.{Leaves, Makes, Rest, Standing, ends_at}
use Rattle.http_conn.specs.Tells.{goes_at}
use Rattle.http_step_laws.proofs.EndWords.{goes, going}
use Rattle.http_step_laws.proofs.BodyWords.{heard_push}
use Rattle.http_step_laws.proofs.StageWords.{staged_run}
use Rattle.http_step_laws.proofs.ThenLaws.{leaves_made, leaves_none}
use Rattle.http_step_laws.proofs.WhyWords.{going_none, none_going, some_why, why_same}
use Rattle.http_step_laws.proofs.QuietWords.{calm_quiet}
use Rattle.http_step_laws.proofs.ShutWords.{dead, deals, decided_now, ended_not, even_decided, lost_kept, quiet_at, run_same, shut_now, some_answered}

-- what is known behind it: it was shut where memory ran out, and where it is live nothing ends it
pub record Closed (turn : Turn) (e : Exchange) (conn : HttpConn) : Type 0 where
  pub rest : Rest turn e conn
  pub shut_lost : conn.lost ≡ true → (flags_of conn).shut ≡ true
  pub on : is_live (flags_of conn) ≡ true → ends_at conn e ≡ false
  -- .. and nothing more can be done
  pub still : is_live (flags_of conn) ≡ true → goes_at conn (is_done_with conn (request_bytes (number_of conn) e)) conn.stage ≡ false

module _ (L : List Item) (ev : Event) (acts : List Act) (turn : Turn) (e : Exchange) (old : HttpConn) (n : ℕ) (s : Standing L ev acts turn n e old) (two : 2 ≤ (site_of old).limits.head)
    (rest : Rest turn e old) (live : is_live (flags_of old) ≡ true) (why : Why) (memory : is_no_memory why ≡ old.lost) (ends : ends_at old e ≡ true) where
  abbrev act : Act
  act = Shut (number_of old) why

  abbrev mid : HttpConn
  mid = record old { flags = noted (flags_of old) (Out act); run = given_up_by (is_no_memory why) old.run }

  same : given_up_by (is_no_memory why) old.run ≡ old.run
  same = run_same L ev acts turn e old n s two rest live why memory ends

  decided_then : IsDecided (given_up_by (is_no_memory why) old.run)
  decided_then = subst (λ (x : Option View). IsDecided x) (sym same) (decided_now L ev acts turn e old n s two rest live why memory ends)

  shut_then : (flags_of mid).shut ≡ true
  shut_then = shut_now L ev acts turn e old n s two rest live why memory ends

  dead_then : is_live (flags_of mid) ≡ false
  dead_then = dead L ev acts turn e old n s two rest live why memory ends

  pub shuts_make : Makes Closed L ev acts e old n (gives act ∷ []) mid
  shuts_make = record {
    in_step = (ended_not L ev acts turn e old n s two rest live why memory ends, tt);
    right = (record { start = refl; in_turn = refl; upgrade = refl; may = refl }, tt);
    turn = turn;
    over = s.over;
    legs = s.legs;
    staged = λ found.
        staged_run old (flags_of mid) (given_up_by (is_no_memory why) old.run) (pushed e (Out act)) s.legs refl same
        (others_staged old e s.legs act two (s.staged found) (calm_quiet old e s.legs old.stage (λ at. some_answered L ev acts turn e old n s rest.1.unover at) (rest.1.found found).quiet) refl refl);
    lost = λ is. lost_kept L ev acts turn e old n s two rest live why memory ends old.stage refl (s.lost is);
    memory = λ is shut. inr (or_left (number_of old == number_of old && is_no_memory why) false (and_from _ _ (eq-eqb (number_of old) (number_of old) refl) (memory ∙ is)));
    children = deals L ev acts turn e old n s two rest live why memory ends;
    heard = λ found. let h = heard_push old e (Out act) refl (s.heard found) in record { bodies = h.bodies; looked = h.looked; handed = h.handed };
    inward = record {
      calm = s.inward.calm;
      calm_found = s.inward.calm_found;
      accepted = s.inward.accepted;
      http = s.inward.http;
      lost_in = s.inward.lost_in;
      decided = λ found r. decided_then;
      left = λ found is. s.inward.left found (sym (ap (λ (x : Option View). is_left (outcome_of_run x)) same) ∙ is);
      cut_is = λ found. subst (λ (x : Option View). CutIs old.stage (outcome_of_run x) old.cut) (sym same) (s.inward.cut_is found);
      held = λ shut. decided_then;
      stays = λ found unshut_then. absurd (false≢true (sym unshut_then ∙ shut_then));
      closes_is = s.inward.closes_is;
      room = s.inward.room;
      asked = s.inward.asked;
      within = λ found open_yet either. let was = s.inward.within found open_yet either in record { untaken = was.untaken; looked = was.looked };
      past = λ found open_yet unshut_then. absurd (false≢true (sym unshut_then ∙ shut_then));
    };
    starts_first = first_quiet e (Out act) (λ k. refl) s.starts_first;
    accepted = (and_parts (flags_of old).accepted (not (flags_of old).shut) live).0;
    post = record {
      rest = (
        rest.0,
        record {
          unover = ap (λ (x : Option View). is_answered old.stage && run_settled x) same ∙ rest.1.unover;
          found = λ found. record {
            quiet = quiet_at L ev acts turn e old n s two rest live why memory ends old.stage (rest.1.found found).quiet;
            let_on = λ u first awaited. absurd (false≢true (sym ((rest.1.found found).let_on u first (sym (awaited-quiet (site_of old) (number_of old) e (Out act) refl) ∙ awaited)).0 ∙ ends));
          };
        },
        even_decided L ev acts turn e old n s two rest live why memory ends (has_room (flags_of mid)) turn (given_up_by (is_no_memory why) old.run) rest.0 decided_then,
      );
      shut_lost = λ is. shut_then;
      on = λ alive. absurd (false≢true (sym dead_then ∙ alive));
      still = λ alive. absurd (false≢true (sym dead_then ∙ alive));
    };
  }

-- The connection is shut where that is due.
pub closes_leave : (L : List Item) (ev : Event) (acts : List Act) (turn : Turn) (e : Exchange) (old new : HttpConn) (n : ℕ) (moves : List Move) → Standing L ev acts turn n e old → 2 ≤ (site_of old).limits.head
    → Rest turn e old → goes_at old (is_done_with old (request_bytes (number_of old) e)) old.stage ≡ false → Part Closes old n moves new → are_given (flags_of old) (acts_of moves) ≡ true
    → Leaves Closed L ev acts e old n moves new
closes_leave L ev acts turn e old new n moves s two rest still p form = by_why p.by.why (p.by.tells.is ∙ why_same old e two s.front p.by.tells.done p.by.tells.tells) p.by.by
  where
    shut_lost : why_of old (is_done_with old (request_bytes (number_of old) e)) ≡ None → old.lost ≡ true → (flags_of old).shut ≡ true
    shut_lost none is =
        true_from_ne_false (flags_of old).shut (λ unshut.
        let live : is_live (flags_of old) ≡ true = and_from (flags_of old).accepted (not (flags_of old).shut) (s.inward.lost_in is) (ap not unshut) in
        let g = going_none old (is_done_with old (request_bytes (number_of old) e)) live s.inward.http none in
        false≢true (sym g.found ∙ is))

    by_why : (why : Option Why) → why ≡ why_of old (is_done_with old (request_bytes (number_of old) e)) → ShutsBy why old n moves new → Leaves Closed L ev acts e old n moves new
    by_why None is none =
        leaves_none Closed L ev acts turn e old new n moves s none (record {
          rest = rest;
          shut_lost = shut_lost (sym is);
          on = λ live. goes old (is_done_with old (request_bytes (number_of old) e)) (going_none old (is_done_with old (request_bytes (number_of old) e)) live s.inward.http (sym is));
          still = λ live. still;
        })
    by_why (Some why) is t =
        let some = some_why (is_live (flags_of old)) old.lost (flags_of old).stopped (flags_of old).gone old.cut old.idled (old.closing || old.closes || is_done_with old (request_bytes (number_of old) e)) why (sym is) in
        let ends : ends_at old e ≡ true = true_from_ne_false (ends_at old e) (λ on. none_some why (sym (none_going old _ (going old (is_done_with old (request_bytes (number_of old) e)) on)) ∙ sym is)) in
        leaves_made Closes Closed L ev acts turn e old new n moves s p form
        (subst (λ (l : List Move). Makes Closed L ev acts e old n l new) (sym t.moves_are)
        (subst (λ (c : HttpConn). Makes Closed L ev acts e old n (gives (Shut (number_of old) why) ∷ []) c) (sym t.is) (shuts_make L ev acts turn e old n s two rest some.1 why some.0 ends)))
      where
        none_some : (w : Why) → None ≡ Some w → ⊥
        none_some w e = cc
