-- What is known of a connection's list after a step.
use Rattle.std.specs.Prelude.{ℕ, true, false, ◌≤◌, ◌≡◌, List, [], ◌∷◌, ◌++◌, Option}
use Rattle.host_trace.specs.declared.items.Event.{Event}
use Rattle.host_trace.specs.declared.items.Item.{Item}
use Rattle.host_trace.specs.declared.items.Item.TheVariants.{In}
use Rattle.host_base.specs.declared.site.Site.{Site}
use Rattle.host_trace.specs.Trace.{after_step, step_of}
use Rattle.own_traces.specs.OwnFits.{fits_own}
use Rattle.conn_flags.specs.Knows.{KnowsFlags}
use Rattle.conn_laws.specs.Form.{all_come, all_in_time}
use Rattle.http_state.specs.declared.conn.HttpConn.{HttpConn}
use Rattle.trace_model.specs.Exchange.{pushed}
use Rattle.trace_model.specs.Exchanges.{current, has_ended}
use Rattle.trace_model.specs.Steps.{goes_on}
use Rattle.trace_model.specs.Stops.{stops}
use Rattle.conn_laws.specs.Moves.{AreInStep, moved}
use Rattle.http_state.specs.Reasons.{Stops}
use Rattle.http_state.specs.Kept.{HasChildIn, StandsFor, is_settled_as, flags_of, number_of, site_of}
use Rattle.http_state.specs.Slot.{run_settled}
use Rattle.http_conn.specs.Step.{Stepped}

-- Where the flags of a connection know the list, they know it with the step of an event that fits.
abbrev pub StepsAreKnown : Type 0
StepsAreKnown = (limit : ℕ) (old new : HttpConn) (ev : Event) (stamp : Option ℕ) (n m : ℕ) (before after : Option (List Item)) (L : List Item)
    → (s : Stepped old ev stamp n before new m after) → KnowsFlags (flags_of old) L → fits_own limit L ev ≡ true
    → KnowsFlags (flags_of new) (after_step L ev s.acts)

-- .. and each act of the step on the connection comes in form.
abbrev pub StepsAreInForm : Type 0
StepsAreInForm = (limit : ℕ) (old new : HttpConn) (ev : Event) (stamp : Option ℕ) (n m : ℕ) (before after : Option (List Item)) (L : List Item) (ks : List ℕ)
    → (s : Stepped old ev stamp n before new m after) → KnowsFlags (flags_of old) L → HasChildIn old ks → fits_own limit L ev ≡ true
    → all_come (L ++ In ev ∷ []) s.acts ≡ true

-- .. and Starts and questions wait for room, and come before the server is to end.
abbrev pub StepsAreInTime : Type 0
StepsAreInTime = (limit : ℕ) (old new : HttpConn) (ev : Event) (stamp : Option ℕ) (n m : ℕ) (before after : Option (List Item)) (L : List Item)
    → (s : Stepped old ev stamp n before new m after) → KnowsFlags (flags_of old) L → fits_own limit L ev ≡ true
    → all_in_time (number_of old) (L ++ In ev ∷ []) s.acts ≡ true

-- Where its front is that of the exchange that goes on, and its acts and the ends of exchanges that it notices keep step
-- with the model, so is it after the step of an event, at whose end no exchange has ended that it hasn't noticed.
abbrev pub StepsKeepFronts : Type 0
StepsKeepFronts = (old new : HttpConn) (ev : Event) (stamp : Option ℕ) (n m : ℕ) (before after : Option (List Item)) (L : List Item)
    → (s : Stepped old ev stamp n before new m after) → 2 ≤ (site_of old).limits.head
    → run_settled old.run ≡ is_settled_as old (current (site_of old) (number_of old) L) → StandsFor old (current (site_of old) (number_of old) L)
    → AreInStep (site_of old) (number_of old) (pushed (current (site_of old) (number_of old) L) (In ev)) s.moves
    → has_ended (site_of old) (number_of old) (moved (site_of old) (number_of old) (pushed (current (site_of old) (number_of old) L) (In ev)) s.moves) ≡ false
    → StandsFor new (current (site_of old) (number_of old) (after_step L ev s.acts))

-- After Stop it is shut, as the model says.
abbrev pub StepsStop : Type 0
StepsStop = (limit : ℕ) (site : Site) (old new : HttpConn) (ev : Event) (stamp : Option ℕ) (n m : ℕ) (before after : Option (List Item)) (L : List Item)
    → (s : Stepped old ev stamp n before new m after) → KnowsFlags (flags_of old) L → fits_own limit L ev ≡ true → Stops (flags_of new)
    → stops (number_of old) (goes_on site (number_of old) (step_of L ev s.acts)) ≡ true
