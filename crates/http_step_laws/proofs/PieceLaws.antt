-- A part of a reply is given.
use Rattle.std.proofs.Common.{◌≡◌, ◌≤◌, ℕ, true, false, not, List, [], ◌∷◌, Option, None, option_map, refl, sym, ap, ◌∙◌, subst}
use Rattle.std.proofs.lemmas.Bool.{false≢true, or_from}
use Rattle.host_trace.specs.declared.items.Act.{Act}
use Rattle.host_trace.specs.declared.items.Act.TheVariants.{Write}
use Rattle.host_trace.specs.declared.items.Event.{Event}
use Rattle.host_trace.specs.declared.items.Item.{Item}
use Rattle.host_trace.specs.declared.items.Item.TheVariants.{Out}
use Rattle.request_reader.specs.Request.{is_begun}
use Rattle.trace_child.specs.Words.{is_filled}
use Rattle.child_core.specs.declared.ending.Outcome.{Outcome}
use Rattle.child_core.specs.Knows.{read}
use Rattle.trace_model.specs.Answers.{begins_in_turn}
use Rattle.trace_model.specs.Exchange.{Exchange, pushed, request_bytes}
use Rattle.trace_model.specs.Exchanges.{has_ended}
use Rattle.exchange_reply.specs.StepRules.{wrote as wrote_then}
use Rattle.exchange_stage.specs.declared.stage.Leg.{Leg}
use Rattle.exchange_stage.specs.declared.stage.Stage.{Stage}
use Rattle.exchange_stage.specs.declared.stage.Stage.TheVariants as At
use Rattle.exchange_laws.specs.Rules.{IsUnended}
use Rattle.exchange_laws.proofs.ReasonParts.{no_more}
use Rattle.conn_flags.specs.Form.{are_given}
use Rattle.child_laws.specs.Step.{Turn}
use Rattle.child_laws.specs.Moves.{may_lose}
use Rattle.child_laws.proofs.MoveLaws.{acts_move}
use Rattle.conn_laws.specs.Moves.{Move, acts_of}
use Rattle.http_conn.specs.HttpConn.{HttpConn}
use Rattle.http_conn.specs.Kept.{is_reading, flags_of, number_of, site_of}
use Rattle.http_conn.specs.Reasons.{is_done_with}
use Rattle.http_conn.specs.Writes.{acts_written, wrote}
use Rattle.http_stage_laws.specs.Staged.{Staged}
use Rattle.http_stage_laws.proofs.EndLaws.{parts_staged}
use Rattle.http_stage_laws.proofs.StagedLaws.{outcome_told}
use Rattle.http_conn.specs.Parts.{LosesText, Or, Part, WritesPart, gives_all, the_one, the_other}
use Rattle.http_stage_laws.specs.Inward.{IsPast}
use Rattle.http_stage_laws.proofs.StartWords.{first_quiet}
use Rattle.http_step_laws.specs.Standing.{Leaves, Makes, Quiet, Ready, ReadyAt, RunQuiet, Standing, Within, ends_at, is_early}
use Rattle.http_step_laws.proofs.BodyWords.{heard_push, no_script_waits}
use Rattle.http_step_laws.proofs.EndWords.{Going, accepted_of, goes, going, unshut_of}
use Rattle.http_step_laws.proofs.LackLaws.{not_output}
use Rattle.http_step_laws.proofs.StageWords.{ended_found, known}
use Rattle.http_step_laws.proofs.ThenLaws.{leaves_made}
use Rattle.http_step_laws.proofs.GiveWords.{deals_same, gives_lost, in_turn}

module _ (L : List Item) (ev : Event) (acts : List Act) (turn : Turn) (e : Exchange) (old : HttpConn) (n : ℕ) (s : Standing L ev acts turn n e old) (two : 2 ≤ (site_of old).limits.head)
    (ready : Ready e old) (free : may_lose turn old.run ≡ true) (on : ends_at old e ≡ false) where
  abbrev bytes : List ℕ
  bytes = request_bytes (number_of old) e

  g : Going old (is_done_with old bytes)
  g = going old (is_done_with old bytes) on

  module _ (leg : Leg) (at : old.stage ≡ At.Running leg) where
    ready_at : ReadyAt old e (At.Running leg)
    ready_at = subst (λ (t : Stage). ReadyAt old e t) at ready.at

    unended : IsUnended (site_of old) (number_of old) e s.legs old.stage
    unended =
        subst (λ (t : Stage). IsUnended (site_of old) (number_of old) e s.legs t) (sym at)
        (λ started last der.
        not_output None (λ is. cc) (sym (outcome_told (site_of old) (number_of old) e n s.legs old.run (known L ev acts turn n e old s ready.found) started last ∙ ap (λ (o : Option Outcome). option_map read o) ready_at.0) ∙ der))

    ended_not : has_ended (site_of old) (number_of old) e ≡ false
    ended_not = ended_found L ev acts turn n e old s ready.found unended ∙ ready.unover

    abbrev after : List ℕ → HttpConn
    after text = record (wrote text true old) { stage = At.Running (record leg { text = [] }) }

    on_after : (text : List ℕ) (then_e : Exchange) → ends_at (after text) then_e ≡ false
    on_after [] then_e = goes (after []) (is_done_with (after []) (request_bytes (number_of old) then_e)) (record {
      may = g.may;
      unstopped = g.unstopped;
      here = g.here;
      found = g.found;
      calm = g.calm;
      open_yet = g.open_yet;
      unclosed = g.unclosed;
      uncut = g.uncut;
      undone = no_more (flags_of old).ended (not (is_begun (request_bytes (number_of old) then_e)));
    })
    on_after (byte ∷ text) then_e = goes (after (byte ∷ text)) (is_done_with (after (byte ∷ text)) (request_bytes (number_of old) then_e)) (record {
      may = g.may;
      unstopped = g.unstopped;
      here = g.here;
      found = g.found;
      calm = g.calm;
      open_yet = g.open_yet;
      unclosed = g.unclosed;
      uncut = g.uncut;
      undone = no_more (flags_of old).ended (not (is_begun (request_bytes (number_of old) then_e)));
    })

    quiet_after : (text : List ℕ) (then_e : Exchange) → Quiet then_e (after text)
    quiet_after [] then_e = record {
      unover = refl;
      found = λ f. record {
        quiet = (refl, subst (λ (o : Option Outcome). RunQuiet (after []) then_e (record leg { text = [] }) o) (sym ready_at.0) (ready_at.1, ready_at.2, on_after [] then_e));
        let_on = λ u. absurd (false≢true u);
      };
    }
    quiet_after (byte ∷ text) then_e = record {
      unover = refl;
      found = λ f. record {
        quiet = (refl, subst (λ (o : Option Outcome). RunQuiet (after (byte ∷ text)) then_e (record leg { text = [] }) o) (sym ready_at.0) (ready_at.1, ready_at.2, on_after (byte ∷ text) then_e));
        let_on = λ u. absurd (false≢true u);
      };
    }

    staged_text : (text : List ℕ) → leg.text ≡ text → Staged (after text) (wrote_then (number_of old) e text) s.legs
    staged_text text is =
        subst (λ (t : List ℕ). Staged (after t) (wrote_then (number_of old) e t) s.legs) is (parts_staged old e s.legs leg two (s.staged ready.found) at)

    part_makes : (text : List ℕ) → leg.text ≡ text → Makes (Within turn Quiet) L ev acts e old n (gives_all (acts_written (number_of old) text true)) (after text)
    part_makes [] is = record {
      in_step = tt;
      right = tt;
      turn = turn;
      over = s.over;
      legs = s.legs;
      staged = λ f. staged_text [] is;
      lost = λ lost. absurd (false≢true (sym ready.found ∙ lost));
      memory = λ is. absurd (false≢true (sym ready.found ∙ is));
      children = deals_same L ev acts turn e old n s two ready free on;
      heard = λ f. record { bodies = no_script_waits (site_of old) (number_of old) e (At.Running (record leg { text = [] })) refl; looked = λ r. (s.heard f).looked (ap is_reading at); handed = (s.heard f).handed };
      inward = record {
        calm = λ idle. absurd (false≢true (sym g.calm ∙ idle));
        calm_found = λ found idle. absurd (false≢true (sym g.calm ∙ idle));
        accepted = λ r. accepted_of old (is_done_with old bytes) g;
        cut_is = λ f. g.uncut;
        held = λ shut. absurd (false≢true (sym (unshut_of old (is_done_with old bytes) g) ∙ shut));
        http = s.inward.http;
        lost_in = λ is. absurd (false≢true (sym ready.found ∙ is));
        decided = λ f r. absurd (false≢true (sym r));
        left = s.inward.left;
        stays = λ f unshut ends. absurd (false≢true (sym (or_from _ _ g.unstopped g.here) ∙ ends));
        closes_is = λ is. absurd (false≢true (sym g.unclosed ∙ is));
        room = s.inward.room;
        asked = s.inward.asked;
        within = λ f open_yet either. record { untaken = (s.inward.within f open_yet either).untaken; looked = λ r. absurd (false≢true r) };
        past = λ f open_yet unshut is. subst (λ (t : Stage). IsPast t old.run) at (s.inward.past f open_yet unshut is);
      };
      starts_first = s.starts_first;
      accepted = accepted_of old (is_done_with old bytes) g;
      post = (refl, free, quiet_after [] e);
    }
    part_makes (byte ∷ text) is = record {
      in_step = (ended_not, tt);
      right = (record { start = refl; in_turn = subst (λ (t : List ℕ). begins_in_turn (site_of old) (number_of old) e (Write (number_of old) t) ≡ true) is ((in_turn L ev acts turn e old n s two ready free on).part leg at (ap is_filled is)); upgrade = refl; may = refl }, tt);
      turn = turn;
      over = s.over;
      legs = s.legs;
      staged = λ f. staged_text (byte ∷ text) is;
      lost = λ lost. absurd (false≢true (sym ready.found ∙ lost));
      memory = λ is. absurd (false≢true (sym ready.found ∙ is));
      children = acts_move (site_of old) (number_of old) L ev acts e s.over (Write (number_of old) (byte ∷ text)) (is_early old) turn n s.legs old.run two refl refl ended_not s.children;
      heard = λ f. record {
        bodies = no_script_waits (site_of old) (number_of old) (pushed e (Out (Write (number_of old) (byte ∷ text)))) (At.Running (record leg { text = [] })) refl;
        looked = λ r. (s.heard f).looked (ap is_reading at);
        handed = (heard_push old e (Out (Write (number_of old) (byte ∷ text))) refl (s.heard f)).handed;
      };
      inward = record {
        calm = λ idle. absurd (false≢true (sym g.calm ∙ idle));
        calm_found = λ found idle. absurd (false≢true (sym g.calm ∙ idle));
        accepted = λ r. accepted_of old (is_done_with old bytes) g;
        cut_is = λ f. g.uncut;
        held = λ shut. absurd (false≢true (sym (unshut_of old (is_done_with old bytes) g) ∙ shut));
        http = s.inward.http;
        lost_in = λ is. absurd (false≢true (sym ready.found ∙ is));
        decided = λ f r. absurd (false≢true (sym r));
        left = s.inward.left;
        stays = λ f unshut ends. absurd (false≢true (sym (or_from _ _ g.unstopped g.here) ∙ ends));
        closes_is = λ is. absurd (false≢true (sym g.unclosed ∙ is));
        room = s.inward.room;
        asked = s.inward.asked;
        within = λ f open_yet either. record { untaken = (s.inward.within f open_yet either).untaken; looked = λ r. absurd (false≢true r) };
        past = λ f open_yet unshut is. subst (λ (t : Stage). IsPast t old.run) at (s.inward.past f open_yet unshut is);
      };
      starts_first = first_quiet e (Out (Write (number_of old) (byte ∷ text))) (λ k. refl) s.starts_first;
      accepted = accepted_of old (is_done_with old bytes) g;
      post = (refl, free, quiet_after (byte ∷ text) (pushed e (Out (Write (number_of old) (byte ∷ text)))));
    }

    pub part_leaves : (moves : List Move) (new : HttpConn) → Or (Part (WritesPart leg)) (Part (LosesText leg.text)) old n moves new → are_given (flags_of old) (acts_of moves) ≡ true
        → Leaves (Within turn Quiet) L ev acts e old n moves new
    part_leaves moves new (the_one p) form =
        leaves_made (WritesPart leg) (Within turn Quiet) L ev acts turn e old new n moves s p form
        (subst (λ (l : List Move). Makes (Within turn Quiet) L ev acts e old n l new) (sym p.by.moves_are)
        (subst (λ (c : HttpConn). Makes (Within turn Quiet) L ev acts e old n (gives_all (acts_written (number_of old) leg.text true)) c) (sym p.by.is) (part_makes leg.text refl)))
    part_leaves moves new (the_other p) form =
        leaves_made (LosesText leg.text) (Within turn Quiet) L ev acts turn e old new n moves s p form (gives_lost L ev acts turn e old n s two ready free on new moves unended p.by.loses)
