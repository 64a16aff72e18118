-- The script of a hop is started.
use Rattle.std.proofs.Common.{◌≡◌, ◌≤◌, ℕ, ◌+◌, Bool, true, false, ◌&&◌, ◌||◌, not, List, [], ◌∷◌, ◌++◌, Some, refl, sym, ap, ◌∙◌, subst, le_refl, arith}
use Rattle.std.specs.List.{list_any}
use Rattle.std.proofs.lemmas.Bool.{eqb-true, false≢true, or_from, or_parts}
use Rattle.std.proofs.lemmas.List.Folds.{list_any-append}
use Rattle.host_base.specs.declared.launch.Launch.{Launch}
use Rattle.host_trace.specs.declared.items.Act.{Act}
use Rattle.host_trace.specs.declared.items.Act.TheVariants.{Start}
use Rattle.host_trace.specs.declared.items.Event.{Event}
use Rattle.host_trace.specs.declared.items.Item.{Item}
use Rattle.host_trace.specs.declared.items.Item.TheVariants.{Out}
use Rattle.host_trace.specs.Kinds.{is_start, names_child}
use Rattle.host_trace.specs.Projections.{child_out}
use Rattle.child_core.proofs.OutputLaws.{no_output_in}
use Rattle.request_reader.specs.Request.{is_begun}
use Rattle.child_core.specs.View.{View}
use Rattle.child_core.proofs.WordLaws.{none, start_names}
use Rattle.trace_model.specs.Exchange.{Exchange, all_of, pushed, request_bytes}
use Rattle.trace_model.specs.Exchanges.{has_ended}
use Rattle.trace_model.specs.Legs.{leg_of}
use Rattle.exchange_request.specs.Knows.{is_looked_at}
use Rattle.exchange_stage.specs.declared.stage.Leg.{Leg}
use Rattle.exchange_stage.specs.declared.stage.Stage.{Stage}
use Rattle.exchange_stage.specs.declared.stage.Stage.TheVariants as At
use Rattle.exchange_laws.specs.Rules.{IsUnended}
use Rattle.exchange_laws.specs.StageIs.{StageIs}
use Rattle.exchange_laws.proofs.ReasonParts.{no_more}
use Rattle.exchange_laws.proofs.PlaceLaws.{starts_are_right}
use Rattle.conn_flags.specs.View.{has_room}
use Rattle.conn_flags.specs.Form.{are_given}
use Rattle.child_laws.specs.Laws.{MayStart}
use Rattle.child_laws.specs.Setting.{setting}
use Rattle.child_laws.specs.Step.{Turn, begun}
use Rattle.child_laws.specs.Moves.{Deals}
use Rattle.child_laws.proofs.DrainLaws.{new_offered}
use Rattle.child_laws.proofs.MoveLaws.{starts_move}
use Rattle.child_core.specs.declared.ending.Ending.TheVariants.{Dropped}
use Rattle.conn_laws.specs.Moves.{AllBelong, AreInStep, Move, acts_of, gives}
use Rattle.http_conn.specs.HttpConn.{HttpConn}
use Rattle.http_conn.specs.Kept.{is_reading, flags_of, number_of, site_of}
use Rattle.http_conn.specs.Moves.{ended_run}
use Rattle.http_conn.specs.Settles.{is_over}
use Rattle.http_conn.specs.Reasons.{is_done_with}
use Rattle.http_conn.specs.Slot.{run_settled}
use Rattle.http_stage_laws.proofs.EndLaws.{starts_staged}
use Rattle.http_stage_laws.specs.Inward.{IsPast}
use Rattle.http_conn.specs.Parts.{Loses, Part, StartsScript, run_begun, the_one, the_other, Or}
use Rattle.http_stage_laws.proofs.StartWords.{first_push}
use Rattle.http_step_laws.specs.Standing.{IsAwake, Leaves, Makes, Rest, Standing, ends_at, is_early}
use Rattle.http_step_laws.proofs.BodyWords.{heard_push, no_script_waits}
use Rattle.http_step_laws.proofs.EndWords.{Going, accepted_of, goes, going, unshut_of}
use Rattle.http_step_laws.proofs.HopWords.{may_turn}
use Rattle.http_step_laws.proofs.LossLaws.{lost_with, loses, over_lost, posts_lost}
use Rattle.http_step_laws.proofs.StageWords.{even_free, ended_found, free_lost, free_settled, more_in, same_settled, stage_at, unwhole}
use Rattle.http_step_laws.proofs.ThenLaws.{leaves_made}

module _ (L : List Item) (ev : Event) (acts : List Act) (turn : Turn) (e : Exchange) (old : HttpConn) (n : ℕ) (s : Standing L ev acts turn n e old) (two : 2 ≤ (site_of old).limits.head)
    (unover : is_over old ≡ false) (on : ends_at old e ≡ false) (settled : run_settled old.run ≡ true) (room : has_room (flags_of old) ≡ true)
    (leg : Leg) (launch : Launch) (body : List ℕ) (whole : Bool) (at : old.stage ≡ At.Starting leg launch body whole) where
  abbrev bytes : List ℕ
  bytes = request_bytes (number_of old) e

  g : Going old (is_done_with old bytes)
  g = going old (is_done_with old bytes) on

  abbrev v : View
  v = run_begun (site_of old) n leg.kind body whole

  abbrev mid : HttpConn
  mid = record old { run = Some v; stage = At.Running leg }

  starting : StageIs (site_of old) (number_of old) e s.legs old.continued (is_looked_at old.request) (old.closing || old.closes) (more_in old e s.legs (s.staged g.found)) (At.Starting leg launch body whole)
  starting = stage_at old e s.legs (At.Starting leg launch body whole) at (s.staged g.found)

  unended : IsUnended (site_of old) (number_of old) e s.legs old.stage
  unended = subst (λ (t : Stage). IsUnended (site_of old) (number_of old) e s.legs t) (sym at) tt

  ended_not : has_ended (site_of old) (number_of old) e ≡ false
  ended_not = ended_found L ev acts turn n e old s g.found unended ∙ unover

  unnamed : list_any (names_child n) e.items ≡ false
  unnamed =
      (or_parts (list_any (names_child n) e.before) (list_any (names_child n) e.items)
      (sym (list_any-append (names_child n) e.before e.items) ∙ s.children.knows.fresh n (omega arith))).1

  may : MayStart (site_of old) (number_of old) e s.legs old.run leg.hop leg.kind leg.request body whole
  may = record {
    left = starting.0.left;
    reached = starting.0.at_hop.reached;
    mapped = starting.0.mapped;
    place = starting.0.place;
    kind_is = starting.0.kind;
    plain = starting.0.plain;
    offers = starting.0.offers;
    over = same_settled old.run ∙ settled;
    going = sym s.flags.stopped ∙ g.unstopped;
  }

  abbrev act : ℕ → Act
  act j = Start n (number_of old) j leg.hop launch

  deals : Deals (site_of old) (number_of old) L ev (acts ++ act e.number ∷ []) (pushed e (Out (act e.number))) s.over (is_early old) begun (n + 1) (s.legs ++ leg_of leg.hop leg.kind leg.request n ∷ []) (Some v)
  deals =
      subst (λ (b : Bool). Deals (site_of old) (number_of old) L ev (acts ++ act e.number ∷ []) (pushed e (Out (act e.number))) s.over b begun (n + 1) (s.legs ++ leg_of leg.hop leg.kind leg.request n ∷ []) (Some v))
      (sym (ap (λ (b : Bool). b && not (flags_of old).shut) g.found))
      (subst (λ (w : View). Deals (site_of old) (number_of old) L ev (acts ++ act e.number ∷ []) (pushed e (Out (act e.number))) s.over false begun (n + 1) (s.legs ++ leg_of leg.hop leg.kind leg.request n ∷ []) (Some w))
      (sym (new_offered (setting (site_of old) (number_of old) e leg.hop) n leg.kind body whole))
      (starts_move (site_of old) (number_of old) L ev acts e s.over turn n s.legs old.run leg.hop leg.kind leg.request launch body whole two ended_not may
      (subst (λ (b : Bool). Deals (site_of old) (number_of old) L ev acts e s.over b turn n s.legs old.run) (ap (λ (b : Bool). b && not (flags_of old).shut) g.found) s.children)))

  on_then : ends_at mid (pushed e (Out (act e.number))) ≡ false
  on_then = goes mid (is_done_with mid (request_bytes (number_of old) (pushed e (Out (act e.number))))) (record {
    may = g.may;
    unstopped = g.unstopped;
    here = g.here;
    found = g.found;
    calm = g.calm;
    open_yet = g.open_yet;
    unclosed = g.unclosed;
    uncut = g.uncut;
    undone = no_more (flags_of old).ended (not (is_begun (request_bytes (number_of old) (pushed e (Out (act e.number))))));
  })

  -- by its own number
  starts_make : Makes Rest L ev acts e old n (gives (act e.number) ∷ []) mid
  starts_make = record {
    in_step = (ended_not, tt);
    right = (
      record {
        start = starts_are_right (site_of old) (number_of old) e s.legs old.continued (is_looked_at old.request) (old.closing || old.closes) (more_in old e s.legs (s.staged g.found)) leg launch body whole n starting
            (may_turn L ev acts turn e old n s settled room) (sym s.flags.stopped ∙ g.unstopped) (sym s.flags.shut ∙ unshut_of old (is_done_with old bytes) g);
        in_turn = refl;
        upgrade = refl;
        may = ap not (none (is_start n) n (all_of e) (start_names n) (s.children.knows.fresh n (le_refl n)));
      },
      tt,
    );
    turn = begun;
    over = s.over;
    legs = s.legs ++ leg_of leg.hop leg.kind leg.request n ∷ [];
    staged = λ found. starts_staged old e s.legs leg launch body whole v two (s.staged g.found) at unnamed refl;
    lost = λ is. absurd (false≢true (sym g.found ∙ is));
    memory = λ is. absurd (false≢true (sym g.found ∙ is));
    children = deals;
    heard = λ found. record {
      bodies = no_script_waits (site_of old) (number_of old) (pushed e (Out (act e.number))) (At.Running leg) refl;
      looked = λ r. (s.heard found).looked (ap is_reading at);
      handed = (heard_push old e (Out (act e.number)) refl (s.heard found)).handed;
    };
    inward = record {
      calm = λ idle. absurd (false≢true (sym g.calm ∙ idle));
      calm_found = λ found idle. absurd (false≢true (sym g.calm ∙ idle));
      accepted = λ r. accepted_of old (is_done_with old bytes) g;
      http = s.inward.http;
      lost_in = λ is. absurd (false≢true (sym g.found ∙ is));
      decided = λ found r. absurd (false≢true (sym r));
      left = λ found is. absurd (false≢true is);
      cut_is = λ found. g.uncut;
      held = λ shut. absurd (false≢true (sym (unshut_of old (is_done_with old bytes) g) ∙ shut));
      stays = λ found unshut ends. absurd (false≢true (sym (or_from _ _ g.unstopped g.here) ∙ ends));
      closes_is = λ is. absurd (false≢true (sym g.unclosed ∙ is));
      room = s.inward.room;
      asked = s.inward.asked;
      within = λ found open_yet either. record { untaken = (s.inward.within found open_yet either).untaken; looked = λ r. absurd (false≢true r) };
      past = λ found open_yet unshut ended first.
          absurd (subst (λ (t : Stage). IsPast t old.run) at (s.inward.past found open_yet unshut ended) first);
    };
    starts_first = first_push e (Out (act e.number)) (λ k is. subst (λ (j : ℕ). child_out e.items j ≡ []) (sym (eqb-true k n is)) (no_output_in n e.items unnamed)) s.starts_first;
    accepted = accepted_of old (is_done_with old bytes) g;
    post = (
      tt,
      record {
        unover = refl;
        found = λ found. record {
          quiet = (starting.0.text, (refl, starting.0.unticked, on_then));
          let_on = λ u. absurd (false≢true u);
        };
      },
      tt,
    );
  }

  pub start_leaves : (moves : List Move) (new : HttpConn) → Or (Part (StartsScript leg launch body whole)) (Part Loses) old n moves new → are_given (flags_of old) (acts_of moves) ≡ true
      → IsAwake turn → Leaves Rest L ev acts e old n moves new
  start_leaves moves new (the_one p) form awake =
      let step : AreInStep (site_of old) (number_of old) e moves = subst (λ (l : List Move). AreInStep (site_of old) (number_of old) e l) (sym p.by.moves_are) (ended_not, tt) in
      let belongs = subst (λ (l : List Move). AllBelong (site_of old) (number_of old) e l) p.by.moves_are (p.leads e s.front step).1 in
      let j_is : old.number ≡ e.number = belongs.0.0 in
      leaves_made (StartsScript leg launch body whole) Rest L ev acts turn e old new n moves s p form
      (subst (λ (l : List Move). Makes Rest L ev acts e old n l new) (sym p.by.moves_are)
      (subst (λ (j : ℕ). Makes Rest L ev acts e old n (gives (act j) ∷ []) new) (sym j_is)
      (subst (λ (c : HttpConn). Makes Rest L ev acts e old n (gives (act e.number) ∷ []) c) (sym p.by.is) starts_make)))
  start_leaves moves new (the_other p) form awake =
      leaves_made Loses Rest L ev acts turn e old new n moves s p form
      (loses Rest L ev acts turn e old n s (record {
        found = g.found;
        free = free_settled turn old.run settled;
        unshut = unshut_of old (is_done_with old bytes) g;
        unwhole = λ none. unwhole old e s.legs (s.staged g.found) unended none;
      }) new moves p.by.none p.by.gives_up (λ idle. absurd (false≢true (sym g.calm ∙ idle))) (accepted_of old (is_done_with old bytes) g) (
        awake,
        (posts_lost e (lost_with old new.stage new.request) refl (over_lost old new.stage new.request p.by.gives_up.answered ∙ unover)).quiet,
        even_free (has_room (flags_of old)) turn (ended_run Dropped old.run) awake (free_lost turn old.run (free_settled turn old.run settled)),
      ))
