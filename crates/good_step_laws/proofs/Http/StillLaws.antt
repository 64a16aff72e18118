-- Of a live connection that is at rest, no part of a step does anything.
use Rattle.std.proofs.Common.{◌≡◌, ℕ, ◌&&◌, ◌||◌, Bool, true, false, not, List, [], Option, Some, None, if◌then◌else◌, refl, sym, ap, ◌∙◌, subst}
use Rattle.std.proofs.lemmas.Bool.{and_from, and_parts, and_right, false≢true, false_from_ne_true, or_from}
use Rattle.host_base.specs.declared.cause.Cause.{Cause}
use Rattle.host_trace.specs.declared.items.Item.{Item}
use Rattle.host_trace.specs.declared.items.Why.{Why}
use Rattle.host_trace.specs.Account.{has_unsettled}
use Rattle.host_trace.specs.Projections.{client_wanted}
use Rattle.trace_child.specs.Words.{implies}
use Rattle.child_core.specs.View.{View}
use Rattle.conn_laws.proofs.FormLaws.{flags_say}
use Rattle.conn_flags.specs.Knows.{KnowsFlags}
use Rattle.conn_flags.specs.View.{has_room, is_live}
use Rattle.trace_model.specs.Demands.{has_room as room_then, is_live as live_then, may_go_on, must_hear}
use Rattle.trace_model.specs.Exchange.{Exchange, all_of}
use Rattle.trace_model.specs.Hears.{hears}
use Rattle.trace_model.specs.Legs.{Leg as Started}
use Rattle.exchange_request.specs.Knows.{is_looked_at}
use Rattle.exchange_stage.specs.declared.stage.Stage.{Stage}
use Rattle.exchange_stage.specs.declared.stage.Stage.TheVariants as At
use Rattle.exchange_laws.specs.Rules.{Rests}
use Rattle.child_laws.specs.Children.{is_over as is_settled_run}
use Rattle.child_laws.proofs.KnowLaws.{unsettled_exact}
use Rattle.http_conn.specs.HttpConn.{HttpConn}
use Rattle.http_conn.specs.Kept.{flags_of, number_of, site_of}
use Rattle.http_conn.specs.Parts.{Answers, Closes, Ends, EndsBy, Handles, LosesTurn, Nothing, Or, Part, Rounds, RoundsOn, Serves, ServesBy, ServesChild, ServesOrLoses, ServesRun, Steps, Then, Wants, gives_all, the_one}
use Rattle.http_conn.specs.Reasons.{ends_with, hears_at, or_cut, why_of}
use Rattle.http_conn.specs.Settles.{is_answered, is_over}
use Rattle.http_conn.specs.Slot.{run_settled}
use Rattle.http_conn.specs.Tells.{goes_at, has_turn}
use Rattle.http_stage_laws.specs.HeardStages.{AtRest, Rested}
use Rattle.http_stage_laws.proofs.AskLaws.{asks_due}
use Rattle.http_step_laws.proofs.EndWords.{Going}
use Rattle.good_step_laws.proofs.Http.QuietLaws.{Idle, both, done_is, done_of, nothing, part}
use Rattle.good_step_laws.proofs.Http.RestLaws.{unanswered}
use Rattle.good_step_laws.proofs.Http.RuleLaws.{all_is}
use Rattle.good_step_laws.proofs.Http.StillAnswers.{answers, found, g, live_now, q as rested_now, read_all}
use Rattle.good_step_laws.proofs.Http.StillWords.{rest_quiet}

-- ---- its exchange is not over

pub rest_unover : (conn : HttpConn) (L : List Item) (e : Exchange) (legs : List Started) (n : ℕ) → AtRest conn L e legs n → is_over conn ≡ false
rest_unover conn L e legs n r = go (run_settled conn.run) refl
  where
    go : (b : Bool) → run_settled conn.run ≡ b → is_over conn ≡ false
    go true settled = ap (λ (b : Bool). b && run_settled conn.run) (unanswered conn L e legs n r settled)
    go false open_yet = and_right (is_answered conn.stage) (run_settled conn.run) open_yet

none_why : (conn : HttpConn) (done : Bool) → is_live (flags_of conn) ≡ true → Going conn done → why_of conn done ≡ None
none_why conn done live g =
    by (is_live conn.flags) conn.lost conn.flags.stopped conn.flags.gone conn.idled (conn.closing || conn.closes || done) conn.cut live g.found g.unstopped g.here g.calm
    (or_from (conn.closing || conn.closes) done (or_from conn.closing conn.closes g.open_yet g.unclosed) g.undone) g.uncut
  where
    by : (l a b d i x : Bool) (cut : Option Cause) → l ≡ true → a ≡ false → b ≡ false → d ≡ false → i ≡ false → x ≡ false → cut ≡ None
        → (if not l then None else (if a then Some Why.NoMemory else (if b then Some Why.Stopped else (if d then Some Why.Gone else or_cut cut (if i then Some Why.Idle else (if x then Some Why.Done else None)))))) ≡ None
    by l a b d i x cut el ea eb ed ei ex ec = rw (el, ea, eb, ed, ec, ei, ex) refl

module _ (conn : HttpConn) (L : List Item) (e : Exchange) (legs : List Started) (n : ℕ) (r : AtRest conn L e legs n) (asks : hears (site_of conn) (number_of conn) e ≡ true) (stamp : Option ℕ)
    (live : is_live (flags_of conn) ≡ true) where
  abbrev q : Rested conn e legs
  q = rested_now conn L e legs n r stamp live

  abbrev done : Bool
  done = done_of conn

  -- ---- more can't be done

  turn_not : (live_then (number_of conn) (all_of e) && may_go_on (number_of conn) e) ≡ false → has_turn conn done ≡ false
  turn_not none =
      let may : may_go_on (number_of conn) e ≡ false = sym (ap (λ (b : Bool). b && may_go_on (number_of conn) e) (live_now conn L e legs n r stamp live)) ∙ none in
      let room : has_room (flags_of conn) ≡ room_then (number_of conn) (all_of e) =
      (flags_say (flags_of conn) L r.flags).room ∙ ap (λ (l : List Item). room_then (number_of conn) l) (sym (all_is conn L e legs n r)) in
      let settled : run_settled conn.run ≡ not (has_unsettled e.items (number_of conn)) =
      sym (ap not (unsettled_exact (site_of conn) (number_of conn) e false n legs conn.run r.children) ∙ not_not_is conn.run) in
      false_from_ne_true (has_turn conn done) (λ turn.
      let p = and_parts (not (ends_with conn done) && run_settled conn.run) (has_room (flags_of conn)) turn in
      let s = and_parts (not (ends_with conn done)) (run_settled conn.run) p.0 in
      false≢true (sym may ∙ and_from (room_then (number_of conn) (all_of e)) (not (has_unsettled e.items (number_of conn))) (sym room ∙ p.1) (sym settled ∙ s.1)))
    where
      not_not_is : (run : Option View) → not (not (is_settled_run run)) ≡ run_settled run
      not_not_is None = refl
      not_not_is (Some v) = not_not (run_settled (Some v))
        where
          not_not : (b : Bool) → not (not b) ≡ b
          not_not true = refl
          not_not false = refl

  goes_none : (t : Stage) → Rests (site_of conn) (number_of conn) e legs (is_looked_at conn.request) q.staged.more t → false ≡ goes_at conn done t
  goes_none At.Reading rests = sym (and_right (not (ends_with conn done)) (not (is_looked_at conn.request)) (ap not (rests (live_now conn L e legs n r stamp live))))
  goes_none (At.Refused cause) rests = sym (turn_not rests)
  goes_none (At.Unstarted hop request) rests = sym (turn_not rests)
  goes_none _ rests = refl

  -- ---- its client was asked

  asked_then : (has_room (flags_of conn) && hears_at conn conn.stage) ≡ true → (flags_of conn).asked ≡ true
  asked_then may =
      let p = and_parts (has_room (flags_of conn)) (hears_at conn conn.stage) may in
      let must : must_hear (site_of conn) (number_of conn) e ≡ true =
      asks_due conn e legs (record {
        front = r.front;
        staged = q.staged;
        rests = q.rests;
        flags = subst (λ (l : List Item). KnowsFlags (flags_of conn) l) (sym (all_is conn L e legs n r)) r.flags;
        next = n;
        children = r.children;
        found = found conn L e legs n r stamp live;
        looked = read_all conn L e legs n r stamp live;
      })
      ∙ and_from (is_live (flags_of conn) && has_room (flags_of conn)) (hears_at conn conn.stage) (and_from (is_live (flags_of conn)) (has_room (flags_of conn)) live p.0) p.1 in
      (flags_say (flags_of conn) L r.flags).asked
      ∙ (ap (λ (l : List Item). client_wanted l (number_of conn)) (sym (all_is conn L e legs n r))
      ∙ (sym (ap (λ (b : Bool). implies b (client_wanted (all_of e) (number_of conn))) must) ∙ asks))

  asks_none : (not (ends_with conn done) && has_room (flags_of conn) && hears_at conn conn.stage && not (flags_of conn).asked) ≡ false
  asks_none =
      false_from_ne_true _ (λ due.
      let p = and_parts (not (ends_with conn done) && has_room (flags_of conn) && hears_at conn conn.stage) (not (flags_of conn).asked) due in
      let s = and_parts (not (ends_with conn done) && has_room (flags_of conn)) (hears_at conn conn.stage) p.0 in
      let t = and_parts (not (ends_with conn done)) (has_room (flags_of conn)) s.0 in
      let was : (flags_of conn).asked ≡ true = asked_then (and_from (has_room (flags_of conn)) (hears_at conn conn.stage) t.1 s.1) in
      false≢true (sym (ap not was) ∙ p.1))

  -- ---- all parts

  pub live_still : (child : Idle conn n ServesChild) → Steps stamp conn n [] conn
  live_still child =
      let over : Idle conn n Ends = subst (λ (b : Bool). EndsBy b conn n [] conn) (sym (rest_unover conn L e legs n r)) (nothing conn n) in
      let handles : Idle conn n Handles = both conn n ServesOrLoses (Part Ends) (the_one child) (part conn n Ends over) in
      let rounds : Idle conn n (RoundsOn stamp) = record {
        turns = 0;
        does = record { mid = conn; sooner = []; later = []; are = refl; first = nothing conn n; second = the_one (nothing conn n) };
        rests = record { done = done; tells = done_is conn; is = goes_none conn.stage q.rests };
        none = λ turns. refl;
        enough = λ few. refl;
      } in
      let closes : Idle conn n Closes = record { why = None; tells = record { done = done; tells = done_is conn; is = sym (none_why conn done live (g conn L e legs n r stamp live)) }; by = nothing conn n } in
      let wants : Idle conn n Wants = record { due = false; tells = record { done = done; tells = done_is conn; is = sym asks_none }; by = nothing conn n } in
      both conn n (Serves stamp) (Then (Part Closes) (Part Wants))
      (both conn n (Answers stamp) (Then Handles (RoundsOn stamp)) (answers conn L e legs n r stamp live) (both conn n Handles (RoundsOn stamp) handles rounds))
      (both conn n (Part Closes) (Part Wants) (part conn n Closes closes) (part conn n Wants wants))

-- ---- the law

pub still_child : (conn : HttpConn) (L : List Item) (e : Exchange) (legs : List Started) (n : ℕ) → AtRest conn L e legs n → Idle conn n ServesChild
still_child conn L e legs n r = go conn.run refl
  where
    go : (run : Option View) → conn.run ≡ run → ServesBy run conn n [] conn
    go None is = nothing conn n
    go (Some v) is =
        let w = rest_quiet (has_room conn.flags) v (r.even v is) in
        part conn n (ServesRun v) (record { moves_are = sym (ap gives_all w.0); is = ap (λ (x : Option View). record conn { run = x }) (is ∙ ap (λ (u : View). Some u) (sym w.1)) })
