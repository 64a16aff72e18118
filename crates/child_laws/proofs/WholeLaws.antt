-- Whole steps, put together of their parts.
use Rattle.std.proofs.Common.{◌≡◌, ◌≤◌, ℕ, Bool, true, false, List, [], ◌∷◌, ◌++◌, Some, refl}
use Rattle.std.specs.Prelude.{is_some}
use Rattle.host_base.specs.declared.site.Site.{Site}
use Rattle.host_trace.specs.declared.items.Act.TheVariants.{Shut, WantClient}
use Rattle.host_trace.specs.declared.items.Event.{Event}
use Rattle.host_trace.specs.declared.items.Item.{Item}
use Rattle.host_trace.specs.declared.items.Item.TheVariants.{In, Out}
use Rattle.host_trace.specs.declared.items.Why.TheVariants.{NoMemory}
use Rattle.host_trace.specs.Trace.{after_step, step_of}
use Rattle.own_traces.specs.OwnFits.{fits_own}
use Rattle.child_core.specs.declared.ending.Ending.TheVariants.{Dropped}
use Rattle.child_core.specs.Calls.{ended, is_settled}
use Rattle.child_core.specs.Due.{acted, acting}
use Rattle.child_core.specs.View.{View}
use Rattle.trace_model.specs.Children.{ChildrenGood}
use Rattle.trace_model.specs.Demands.{has_room}
use Rattle.trace_model.specs.Exchange.{Exchange, pushed}
use Rattle.trace_model.specs.Exchanges.{current, following, has_ended}
use Rattle.trace_model.specs.Legs.{Leg}
use Rattle.child_laws.specs.Children.{KnowsChildren}
use Rattle.child_laws.specs.Heard.{heard_by, last_hop}
use Rattle.child_laws.specs.Laws.{with_acts}
use Rattle.child_laws.specs.Moves.{Deals}
use Rattle.child_laws.specs.Step.{waiting, served}
use Rattle.child_laws.proofs.MoveLaws.{moves_begin, acts_move, losses_move, serves_move, shuts_move, ends_move, moves_end_well}

module _ (site : Site) (c : ℕ) (L : List Item) (event : Event) (found may : Bool) (next : ℕ) (ls : List Leg) (v : View) (two : 2 ≤ site.limits.head) (fits : fits_own site.limits.children L event ≡ true)
    (knows : KnowsChildren site c (current site c L) false next ls (Some v)) (on : has_ended site c (pushed (current site c L) (In event)) ≡ false) where
  abbrev heard : View
  heard = heard_by site c (current site c L) (last_hop ls) found event v

  abbrev e : Exchange
  e = pushed (current site c L) (In event)

  begun : Deals site c L event [] e [] false waiting next ls (Some heard)
  begun = moves_begin site c L event found next ls (Some v) two fits knows

  served_then : Deals site c L event (acting may heard) (with_acts e (acting may heard)) [] false (served may) next ls (Some (acted may heard))
  served_then = serves_move site c L event [] e [] false may next ls heard two on begun

  -- the child is served, and the client asked
  asked_step : has_ended site c (with_acts e (acting may heard)) ≡ false → has_ended site c (pushed (with_acts e (acting may heard)) (Out (WantClient c))) ≡ false
      → (is_some (acted may heard).outcome ≡ false → is_settled (acted may heard) ≡ false → may ≡ has_room c (after_step L event (acting may heard ++ WantClient c ∷ [])))
      → ChildrenGood site c (step_of L event (acting may heard ++ WantClient c ∷ []))
  asked_step goes_on still room =
      moves_end_well site c L event (acting may heard ++ WantClient c ∷ []) (pushed (with_acts e (acting may heard)) (Out (WantClient c))) [] (served may) next ls (Some (acted may heard)) still
      (acts_move site c L event (acting may heard) (with_acts e (acting may heard)) [] (WantClient c) false (served may) next ls (Some (acted may heard)) two refl refl goes_on served_then) room

  -- the child is served, which ends the exchange, and the client asked for the next
  next_step : has_ended site c (with_acts e (acting may heard)) ≡ true → has_ended site c (following site c (with_acts e (acting may heard))) ≡ false
      → has_ended site c (pushed (following site c (with_acts e (acting may heard))) (Out (WantClient c))) ≡ false → ChildrenGood site c (step_of L event (acting may heard ++ WantClient c ∷ []))
  next_step over new still =
      moves_end_well site c L event (acting may heard ++ WantClient c ∷ []) (pushed (following site c (with_acts e (acting may heard))) (Out (WantClient c))) (with_acts e (acting may heard) ∷ []) waiting next [] _ still
      (acts_move site c L event (acting may heard) (following site c (with_acts e (acting may heard))) (with_acts e (acting may heard) ∷ []) (WantClient c) false waiting next [] _ two refl refl new
      (ends_move site c L event (acting may heard) (with_acts e (acting may heard)) [] false false (served may) waiting next ls (Some (acted may heard)) over served_then)) tt

  -- memory runs out, the child is given up, and the connection shut
  lost_step : (room : Bool) → has_ended site c (with_acts e (acting room (ended heard Dropped))) ≡ false → has_ended site c (pushed (with_acts e (acting room (ended heard Dropped))) (Out (Shut c NoMemory))) ≡ false
      → (is_some (acted room (ended heard Dropped)).outcome ≡ false → is_settled (acted room (ended heard Dropped)) ≡ false → room ≡ has_room c (after_step L event (acting room (ended heard Dropped) ++ Shut c NoMemory ∷ [])))
      → ChildrenGood site c (step_of L event (acting room (ended heard Dropped) ++ Shut c NoMemory ∷ []))
  lost_step room goes_on still at =
      let gone : View = ended heard Dropped in
      moves_end_well site c L event (acting room gone ++ Shut c NoMemory ∷ []) (pushed (with_acts e (acting room gone)) (Out (Shut c NoMemory))) [] (served room) next ls (Some (acted room gone)) still
      (shuts_move site c L event (acting room gone) (with_acts e (acting room gone)) [] (served room) next ls (Some (acted room gone)) two goes_on
      (serves_move site c L event [] e [] true room next ls gone two on (losses_move site c L event [] e [] false waiting next ls (Some heard) refl begun))) at
