-- The laws of a step by the exchange that goes on.
use Rattle.std.proofs.Common.{◌≡◌, ◌≤◌, ℕ, ◌+◌, Bool, true, false, List, [], ◌∷◌, ◌++◌, map, Option, Some, None, refl, sym, ap, subst, ◌∙◌, append-nil, append_assoc}
use Rattle.std.proofs.lemmas.List.{map-append}
use Rattle.host_base.specs.declared.launch.Launch.{Launch}
use Rattle.host_base.specs.declared.request.Request.{Request}
use Rattle.host_base.specs.declared.site.ScriptKind.{ScriptKind}
use Rattle.host_base.specs.declared.site.Site.{Site}
use Rattle.host_trace.specs.declared.items.Act.{Act}
use Rattle.host_trace.specs.declared.items.Act.TheVariants.{Shut, Start}
use Rattle.host_trace.specs.declared.items.Event.{Event}
use Rattle.host_trace.specs.declared.items.Item.{Item}
use Rattle.host_trace.specs.declared.items.Item.TheVariants.{In, Out}
use Rattle.host_trace.specs.declared.items.Why.TheVariants.{NoMemory}
use Rattle.host_trace.specs.Trace.{after_step, step_of}
use Rattle.own_traces.specs.OwnFits.{fits_own}
use Rattle.child_core.specs.Calls.{drained}
use Rattle.child_core.specs.Due.{acted, acting}
use Rattle.child_core.specs.Laws.{just_begun}
use Rattle.child_core.specs.View.{View}
use Rattle.trace_model.specs.Children.{ChildrenGood}
use Rattle.trace_model.specs.Demands.{has_room}
use Rattle.trace_model.specs.Exchange.{Exchange, pushed, all_of}
use Rattle.trace_model.specs.Exchanges.{current, current_after, ended_after, ended_by, following, has_ended, next_by}
use Rattle.trace_model.specs.Legs.{Leg, leg_of}
use Rattle.trace_model.proofs.ExchangeLaws.{all_of-current, current-append, current_after-append, ended_after-append}
use Rattle.conn_laws.specs.Form.{is_to_connection}
use Rattle.conn_laws.specs.Quiet.{is_plain}
use Rattle.child_laws.specs.Setting.{setting}
use Rattle.child_laws.specs.Children.{KnowsChildren, KnowsRuns, NoMore, SettledLeg, dropped}
use Rattle.child_laws.specs.Heard.{run_heard}
use Rattle.child_laws.specs.Laws.{MayStart, with_acts}
use Rattle.child_laws.specs.Moves.{Deals, EndsAt, IsNow, may_lose}
use Rattle.child_laws.specs.Step.{Turn, waiting, begun, served, Dealt, DealsWith}
use Rattle.child_laws.proofs.OverLaws.{new_unended}
use Rattle.child_laws.proofs.DealLaws.{deals_spared, deals_shut, deals_lost, deals_followed}
use Rattle.child_laws.proofs.ServeLaws.{Flows, deals_served, acting_flows}
use Rattle.child_laws.proofs.BeginLaws.{deals_begin, deals_start}
use Rattle.child_laws.proofs.DrainLaws.{deals_drained}
use Rattle.child_laws.proofs.ItemLaws.{all_map}
use Rattle.child_laws.proofs.EndLaws.{end_well}

-- what is told of a step's settled legs is left out
forget_all : (site : Site) (c : ℕ) (heard : List Item) (acts : List Act) (e : Exchange) (ls : List Leg) (early : Bool) (run : Option View) → KnowsRuns (Dealt heard acts) site c e early ls run → KnowsRuns NoMore site c e early ls run
forget_all site c heard acts e ls early None k = k
forget_all site c heard acts e ls early (Some held) k = record {
  older = k.older;
  leg = k.leg;
  are = k.are;
  started = k.started;
  hops = k.hops;
  view = k.view;
  held_as = k.held_as;
  known = k.known;
  apart = k.apart;
  settled = all_map (SettledLeg (Dealt heard acts) site c e) (SettledLeg NoMore site c e) k.older (λ leg s. record { view = s.view; known = s.known; settled = s.settled; more = tt }) k.settled;
  led = k.led;
}

pub moves_begin : (site : Site) (c : ℕ) (L : List Item) (event : Event) (found : Bool) (next : ℕ) (ls : List Leg) (run : Option View) → 2 ≤ site.limits.head
    → fits_own site.limits.children L event ≡ true → KnowsChildren site c (current site c L) false next ls run
    → Deals site c L event [] (pushed (current site c L) (In event)) [] false waiting next ls (run_heard site c (current site c L) ls found event run)
moves_begin site c L event found next ls run two fits k =
    let e : Exchange = current site c L in
    let x : Item = In event in
    let then_run : Option View = run_heard site c e ls found event run in
    let whole : all_of e ≡ L = all_of-current site c L in
    let heard_is : all_of (pushed e x) ≡ L ++ x ∷ [] = sym (append_assoc e.before e.items (x ∷ [])) ∙ ap (λ l. l ++ x ∷ []) whole in
    record {
      knows = subst (λ l. DealsWith site c l [] (pushed e x) [] false waiting next ls then_run) heard_is
          (deals_begin site c e event found next ls run two (ap (λ l. fits_own site.limits.children l event) whole ∙ fits) k);
      goes_on = refl;
      gone = append-nil (ended_by (pushed e x) (has_ended site c (pushed e x)));
    }

module _ (site : Site) (c : ℕ) (L : List Item) (event : Event) (acts : List Act) (e : Exchange) (over : List Exchange) where
  abbrev heard : List Item
  heard = L ++ In event ∷ []

  -- the exchange with these acts more, where it had not ended
  module _ (early : Bool) (turn : Turn) (next : ℕ) (ls : List Leg) (run : Option View) (k : Deals site c L event acts e over early turn next ls run) (on : has_ended site c e ≡ false) where
    is_now : current_after site c (current site c L) (In event ∷ map Out acts) ≡ e
    is_now = k.goes_on ∙ ap (next_by site c e) on

    gone_now : ended_after site c (current site c L) (In event ∷ map Out acts) ≡ over
    gone_now = k.gone ∙ (ap (λ b. over ++ ended_by e b) on ∙ append-nil over)

    moved_by : (more : List Act) (later : Bool) (other : Turn) (then_next : ℕ) (legs : List Leg) (then_run : Option View) → Flows site c e more
        → DealsWith site c heard (acts ++ more) (with_acts e more) over later other then_next legs then_run → Deals site c L event (acts ++ more) (with_acts e more) over later other then_next legs then_run
    moved_by more later other then_next legs then_run f d = record {
      knows = d;
      goes_on = ap (λ l. current_after site c (current site c L) (In event ∷ l)) (map-append Out acts more)
          ∙ (current_after-append site c (current site c L) (In event ∷ map Out acts) (map Out more)
          ∙ (ap (λ g. current_after site c g (map Out more)) is_now ∙ f.on));
      gone = ap (λ l. ended_after site c (current site c L) (In event ∷ l)) (map-append Out acts more)
          ∙ (ended_after-append site c (current site c L) (In event ∷ map Out acts) (map Out more)
          ∙ (ap (λ g. g ++ ended_after site c (current_after site c (current site c L) (In event ∷ map Out acts)) (map Out more)) gone_now
          ∙ ap (λ g. over ++ g) (ap (λ g. ended_after site c g (map Out more)) is_now ∙ f.over)));
    }

  one_flows : (act : Act) → Flows site c e (act ∷ [])
  one_flows act = record { on = refl; over = append-nil (ended_by (pushed e (Out act)) (has_ended site c (pushed e (Out act)))) }

  pub acts_move : (act : Act) (early : Bool) (turn : Turn) (next : ℕ) (ls : List Leg) (run : Option View) → 2 ≤ site.limits.head → is_to_connection act ≡ true → is_plain act ≡ true → has_ended site c e ≡ false
      → Deals site c L event acts e over early turn next ls run → Deals site c L event (acts ++ act ∷ []) (pushed e (Out act)) over early turn next ls run
  acts_move act early turn next ls run two s p on k =
      moved_by early turn next ls run k on (act ∷ []) early turn next ls run (one_flows act) (deals_spared site c heard acts e over early turn next ls run act two s p k.knows)

  pub serves_move : (early may : Bool) (next : ℕ) (ls : List Leg) (held : View) → 2 ≤ site.limits.head → has_ended site c e ≡ false → Deals site c L event acts e over early waiting next ls (Some held)
      → Deals site c L event (acts ++ acting may held) (with_acts e (acting may held)) over early (served may) next ls (Some (acted may held))
  serves_move early may next ls held two on k =
      moved_by early waiting next ls (Some held) k on (acting may held) early (served may) next ls (Some (acted may held)) (acting_flows site c heard two over early may next ls acts e held on k.knows)
      (deals_served site c heard two over early may next ls acts e held k.knows)

  pub starts_move : (turn : Turn) (next : ℕ) (ls : List Leg) (run : Option View) (hop : ℕ) (kind : ScriptKind) (request : Request) (launch : Launch) (body : List ℕ) (whole : Bool) → 2 ≤ site.limits.head
      → has_ended site c e ≡ false → MayStart site c e ls run hop kind request body whole → Deals site c L event acts e over false turn next ls run
      → Deals site c L event (acts ++ Start next c e.number hop launch ∷ []) (pushed e (Out (Start next c e.number hop launch))) over false begun (next + 1) (ls ++ leg_of hop kind request next ∷ [])
      (Some (just_begun (setting site c e hop) next kind body whole))
  starts_move turn next ls run hop kind request launch body whole two on may k =
      moved_by false turn next ls run k on (Start next c e.number hop launch ∷ []) false begun (next + 1) (ls ++ leg_of hop kind request next ∷ []) (Some (just_begun (setting site c e hop) next kind body whole))
      (one_flows (Start next c e.number hop launch)) (deals_start site c heard acts e over turn next ls run hop kind request launch body whole two may k.knows)

  pub shuts_move : (turn : Turn) (next : ℕ) (ls : List Leg) (run : Option View) → 2 ≤ site.limits.head → has_ended site c e ≡ false → Deals site c L event acts e over true turn next ls run
      → Deals site c L event (acts ++ Shut c NoMemory ∷ []) (pushed e (Out (Shut c NoMemory))) over false turn next ls run
  shuts_move turn next ls run two on k =
      moved_by true turn next ls run k on (Shut c NoMemory ∷ []) false turn next ls run (one_flows (Shut c NoMemory)) (deals_shut site c heard acts e over turn next ls run two k.knows)

  pub losses_move : (early : Bool) (turn : Turn) (next : ℕ) (ls : List Leg) (run : Option View) → may_lose turn run ≡ true → Deals site c L event acts e over early turn next ls run
      → Deals site c L event acts e over true turn next ls (dropped run)
  losses_move early turn next ls run may k = record { knows = deals_lost site c heard acts e over early turn next ls run may k.knows; goes_on = k.goes_on; gone = k.gone }

  pub drains_move : (early : Bool) (turn : Turn) (next : ℕ) (ls : List Leg) (v : View) → Deals site c L event acts e over early turn next ls (Some v) → Deals site c L event acts e over early turn next ls (Some (drained v))
  drains_move early turn next ls v k = record { knows = deals_drained site c heard acts e over early turn next ls v k.knows; goes_on = k.goes_on; gone = k.gone }

  pub no_child_moves : (early later : Bool) (turn other : Turn) (next : ℕ) (ls : List Leg) → Deals site c L event acts e over early turn next ls None → Deals site c L event acts e over later other next ls None
  no_child_moves early later turn other next ls k = record {
    knows = record { items = k.knows.items; fresh = k.knows.fresh; runs = k.knows.runs; last = tt; ended = k.knows.ended };
    goes_on = k.goes_on;
    gone = k.gone;
  }

  pub ends_move : (early later : Bool) (turn other : Turn) (next : ℕ) (ls : List Leg) (run : Option View) → has_ended site c e ≡ true → Deals site c L event acts e over early turn next ls run
      → Deals site c L event acts (following site c e) (over ++ e ∷ []) later other next [] None
  ends_move early later turn other next ls run is k =
      let new : has_ended site c (following site c e) ≡ false = new_unended site c (following site c e) refl in
      record {
        knows = deals_followed site c heard acts e over early later turn other next ls run is k.knows;
        goes_on = k.goes_on ∙ (ap (next_by site c e) is ∙ sym (ap (next_by site c (following site c e)) new));
        gone = k.gone ∙ (ap (λ b. over ++ ended_by e b) is ∙ sym (ap (λ b. (over ++ e ∷ []) ++ ended_by (following site c e) b) new ∙ append-nil (over ++ e ∷ [])));
      }

  pub moves_tell : (early : Bool) (turn : Turn) (next : ℕ) (ls : List Leg) (run : Option View) → Deals site c L event acts e over early turn next ls run → IsNow site c L event acts e early next ls run
  moves_tell early turn next ls run k = record {
    knows = record { fresh = k.knows.fresh; runs = forget_all site c heard acts e ls early run k.knows.runs };
    is = λ on. current-append site c L (In event ∷ map Out acts) ∙ is_now early turn next ls run k on;
  }

  pub moves_end_well : (turn : Turn) (next : ℕ) (ls : List Leg) (run : Option View) → has_ended site c e ≡ false → Deals site c L event acts e over false turn next ls run
      → EndsAt (has_room c (after_step L event acts)) turn run → ChildrenGood site c (step_of L event acts)
  moves_end_well turn next ls run on k at =
      let now_is : e ≡ current site c (after_step L event acts) = sym ((moves_tell false turn next ls run k).is on) in
      end_well site c L event acts turn next ls run
      (subst (λ g. DealsWith site c heard acts g (ended_after site c (current site c L) (In event ∷ map Out acts)) false turn next ls run) now_is
      (subst (λ es. DealsWith site c heard acts e es false turn next ls run) (sym (gone_now false turn next ls run k on)) k.knows)) at
