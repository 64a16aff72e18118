-- All that is left of an answer is given.
use Rattle.std.proofs.Common.{◌≡◌, ◌≤◌, ℕ, Bool, true, false, List, [], ◌∷◌, Option, refl, sym, ap, ◌∙◌, subst}
use Rattle.std.proofs.lemmas.Bool.{false≢true, or_from}
use Rattle.host_base.specs.declared.site.Site.{Site}
use Rattle.host_trace.specs.declared.items.Act.{Act}
use Rattle.host_trace.specs.declared.items.Act.TheVariants.{Write}
use Rattle.host_trace.specs.declared.items.Event.{Event}
use Rattle.host_trace.specs.declared.items.Item.{Item}
use Rattle.host_trace.specs.declared.items.Item.TheVariants.{Out}
use Rattle.trace_child.specs.Words.{is_filled}
use Rattle.trace_model.specs.Answers.{begins_in_turn}
use Rattle.trace_model.specs.Exchange.{Exchange, pushed, request_bytes}
use Rattle.trace_model.specs.Exchanges.{has_ended}
use Rattle.exchange_reply.specs.StepRules.{wrote as wrote_then}
use Rattle.exchange_stage.specs.declared.stage.Stage.{Stage}
use Rattle.exchange_stage.specs.declared.stage.Stage.TheVariants as At
use Rattle.exchange_laws.specs.Items.{is_unanswered}
use Rattle.exchange_laws.specs.Rules.{IsUnended}
use Rattle.child_core.specs.View.{View}
use Rattle.conn_flags.specs.Form.{are_given}
use Rattle.child_laws.specs.Step.{Turn}
use Rattle.child_laws.specs.Moves.{may_lose}
use Rattle.child_laws.proofs.MoveLaws.{acts_move}
use Rattle.conn_laws.specs.Moves.{Move, acts_of}
use Rattle.http_conn.specs.HttpConn.{HttpConn}
use Rattle.http_conn.specs.Kept.{is_reading, flags_of, number_of, site_of}
use Rattle.http_conn.specs.Reasons.{is_done_with}
use Rattle.http_conn.specs.Settles.{stood}
use Rattle.http_conn.specs.Writes.{acts_written, wrote}
use Rattle.http_stage_laws.specs.Staged.{Staged}
use Rattle.http_stage_laws.proofs.EndLaws.{rests_staged}
use Rattle.http_conn.specs.Parts.{Ends, FinishesBy, LosesText, Part, WritesRest, gives_all, the_one, the_other}
use Rattle.http_stage_laws.specs.Inward.{is_running}
use Rattle.http_stage_laws.proofs.StartWords.{first_quiet}
use Rattle.http_step_laws.specs.Standing.{Leaves, Makes, Quiet, QuietBy, Ready, Standing, Within, ends_at, is_early}
use Rattle.http_step_laws.proofs.BodyWords.{heard_push, no_script_waits}
use Rattle.http_step_laws.proofs.EndWords.{Going, accepted_of, going, unshut_of}
use Rattle.http_step_laws.proofs.EndsLaws.{Steady, ends_leave}
use Rattle.http_step_laws.proofs.StageWords.{ended_found, free_none}
use Rattle.http_step_laws.proofs.ThenLaws.{leaves_made, then_leaves}
use Rattle.http_step_laws.proofs.GiveWords.{deals_same, gives_lost, in_turn}

-- where the whole answer stands
pub record Stood (e : Exchange) (conn : HttpConn) : Type 0 where
  pub steady : Steady conn
  pub answered : conn.stage ≡ At.Answered

module _ (L : List Item) (ev : Event) (acts : List Act) (turn : Turn) (e : Exchange) (old : HttpConn) (n : ℕ) (s : Standing L ev acts turn n e old) (two : 2 ≤ (site_of old).limits.head)
    (ready : Ready e old) (free : may_lose turn old.run ≡ true) (on : ends_at old e ≡ false) where
  abbrev bytes : List ℕ
  bytes = request_bytes (number_of old) e

  g : Going old (is_done_with old bytes)
  g = going old (is_done_with old bytes) on

  module _ (text : List ℕ) (closes : Bool) (at : old.stage ≡ At.Finishing text closes) where
    filled_unended : is_filled text ≡ true → IsUnended (site_of old) (number_of old) e s.legs old.stage
    filled_unended some = subst (λ (t : Stage). IsUnended (site_of old) (number_of old) e s.legs t) (sym at) some

    rest_staged : Staged (stood closes (wrote text true old)) (wrote_then (number_of old) e text) s.legs
    rest_staged = rests_staged old e s.legs text closes two (s.staged ready.found) at g.unclosed

    rest_turn : begins_in_turn (site_of old) (number_of old) e (Write (number_of old) text) ≡ true
    rest_turn = (in_turn L ev acts turn e old n s two ready free on).rest text closes at

    rest_makes : (bytes' : List ℕ) → text ≡ bytes' → Makes (λ t d c. (t ≡ turn) × (may_lose turn c.run ≡ true) × Stood d c) L ev acts e old n (gives_all (acts_written (number_of old) bytes' true)) (stood closes (wrote bytes' true old))
    rest_makes [] is = record {
      in_step = tt;
      right = tt;
      turn = turn;
      over = s.over;
      legs = s.legs;
      staged = λ f. subst (λ (t : List ℕ). Staged (stood closes (wrote t true old)) (wrote_then (number_of old) e t) s.legs) is rest_staged;
      lost = λ lost. absurd (false≢true (sym ready.found ∙ lost));
      memory = λ is. absurd (false≢true (sym ready.found ∙ is));
      children = deals_same L ev acts turn e old n s two ready free on;
      heard = λ f. record { bodies = no_script_waits (site_of old) (number_of old) e (At.Answered) refl; looked = λ r. (s.heard f).looked (ap is_reading at); handed = (s.heard f).handed };
      inward = record {
        calm = λ idle. absurd (false≢true (sym g.calm ∙ idle));
        calm_found = λ found idle. absurd (false≢true (sym g.calm ∙ idle));
        accepted = λ r. accepted_of old (is_done_with old bytes) g;
        cut_is = λ f. g.uncut;
        held = λ shut. absurd (false≢true (sym (unshut_of old (is_done_with old bytes) g) ∙ shut));
        http = s.inward.http;
        lost_in = λ is. absurd (false≢true (sym ready.found ∙ is));
        decided = λ f r. s.inward.decided ready.found (ap is_running at);
        left = s.inward.left;
        stays = λ f unshut ends. absurd (false≢true (sym (or_from _ _ g.unstopped g.here) ∙ ends));
        closes_is = λ is. refl;
        room = s.inward.room;
        asked = s.inward.asked;
        within = λ f open_yet either. record { untaken = (s.inward.within f open_yet either).untaken; looked = λ r. absurd (false≢true r) };
        past = λ f open_yet unshut is. tt;
      };
      starts_first = s.starts_first;
      accepted = accepted_of old (is_done_with old bytes) g;
      post = (refl, free, record { steady = record { unstopped = g.unstopped; here = g.here }; answered = refl });
    }
    rest_makes (byte ∷ more) is =
        let ended_not : has_ended (site_of old) (number_of old) e ≡ false = ended_found L ev acts turn n e old s ready.found (filled_unended (ap is_filled is)) ∙ ready.unover in
        record {
          in_step = (ended_not, tt);
          right = (record { start = refl; in_turn = subst (λ (t : List ℕ). begins_in_turn (site_of old) (number_of old) e (Write (number_of old) t) ≡ true) is rest_turn; upgrade = refl; may = refl }, tt);
          turn = turn;
          over = s.over;
          legs = s.legs;
          staged = λ f. subst (λ (t : List ℕ). Staged (stood closes (wrote t true old)) (wrote_then (number_of old) e t) s.legs) is rest_staged;
          lost = λ lost. absurd (false≢true (sym ready.found ∙ lost));
          memory = λ is. absurd (false≢true (sym ready.found ∙ is));
          children = acts_move (site_of old) (number_of old) L ev acts e s.over (Write (number_of old) (byte ∷ more)) (is_early old) turn n s.legs old.run two refl refl ended_not s.children;
          heard = λ f. record {
            bodies = no_script_waits (site_of old) (number_of old) (pushed e (Out (Write (number_of old) (byte ∷ more)))) (At.Answered) refl;
            looked = λ r. (s.heard f).looked (ap is_reading at);
            handed = (heard_push old e (Out (Write (number_of old) (byte ∷ more))) refl (s.heard f)).handed;
          };
          inward = record {
            calm = λ idle. absurd (false≢true (sym g.calm ∙ idle));
            calm_found = λ found idle. absurd (false≢true (sym g.calm ∙ idle));
            accepted = λ r. accepted_of old (is_done_with old bytes) g;
            cut_is = λ f. g.uncut;
            held = λ shut. absurd (false≢true (sym (unshut_of old (is_done_with old bytes) g) ∙ shut));
            http = s.inward.http;
            lost_in = λ is. absurd (false≢true (sym ready.found ∙ is));
            decided = λ f r. s.inward.decided ready.found (ap is_running at);
            left = s.inward.left;
            stays = λ f unshut ends. absurd (false≢true (sym (or_from _ _ g.unstopped g.here) ∙ ends));
            closes_is = λ is. refl;
            room = s.inward.room;
            asked = s.inward.asked;
            within = λ f open_yet either. record { untaken = (s.inward.within f open_yet either).untaken; looked = λ r. absurd (false≢true r) };
            past = λ f open_yet unshut is. tt;
          };
          starts_first = first_quiet e (Out (Write (number_of old) (byte ∷ more))) (λ k. refl) s.starts_first;
          accepted = accepted_of old (is_done_with old bytes) g;
          post = (refl, free, record { steady = record { unstopped = g.unstopped; here = g.here }; answered = refl });
        }

    pub rest_leaves : (moves : List Move) (new : HttpConn) → FinishesBy text closes old n moves new → are_given (flags_of old) (acts_of moves) ≡ true → Leaves (Within turn Quiet) L ev acts e old n moves new
    rest_leaves moves new (the_one w) form =
        then_leaves (Part (WritesRest text closes)) (Part Ends) (λ t d c. (t ≡ turn) × (may_lose turn c.run ≡ true) × Stood d c) (Within turn Quiet) L ev acts e old new n moves w form
        (λ xs mid p f.
        leaves_made (WritesRest text closes) (λ t d c. (t ≡ turn) × (may_lose turn c.run ≡ true) × Stood d c) L ev acts turn e old mid n xs s p f
        (subst (λ (l : List Move). Makes (λ t d c. (t ≡ turn) × (may_lose turn c.run ≡ true) × Stood d c) L ev acts e old n l mid) (sym p.by.moves_are)
        (subst (λ (c : HttpConn). Makes (λ t d c. (t ≡ turn) × (may_lose turn c.run ≡ true) × Stood d c) L ev acts e old n (gives_all (acts_written (number_of old) text true)) c) (sym p.by.is) (rest_makes text refl))))
        (λ acts' t d mid n' ys st post site p f.
        ends_leave (Within turn Quiet) L ev acts' t d mid new n' ys st (subst (λ (x : Site). 2 ≤ x.limits.head) (sym site) two) (λ over found unshut. post.2.steady)
        (λ unover. (
          post.0,
          post.1,
          record {
            unover = unover;
            found = λ found. record {
              quiet = subst (λ (x : Stage). QuietBy mid d x) (sym post.2.answered) tt;
              let_on = λ u. absurd (false≢true (sym (ap is_unanswered post.2.answered) ∙ u));
            };
          },
        ))
        (λ next quiet none. (post.0, subst (λ (r : Option View). may_lose turn r ≡ true) (sym none) (free_none turn), quiet)) p f)
    rest_leaves moves new (the_other p) form =
        leaves_made (LosesText text) (Within turn Quiet) L ev acts turn e old new n moves s p form (gives_lost L ev acts turn e old n s two ready free on new moves (filled_unended p.by.filled) p.by.loses)
