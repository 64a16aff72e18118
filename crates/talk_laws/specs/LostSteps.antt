-- A whole step of a connection for whose WebSocket memory is or was wanting.
use Rattle.std.specs.Prelude.{ℕ, ◌≡◌, ◌≤◌, Bool, true, false, ◌||◌, List, [], ◌∷◌, ◌++◌}
use Rattle.std.specs.List.{list_any}
use Rattle.host_base.specs.declared.site.Site.{Site}
use Rattle.host_trace.specs.declared.items.Act.{Act}
use Rattle.host_trace.specs.declared.items.Act.TheVariants.{Shut}
use Rattle.host_trace.specs.declared.items.Event.{Event}
use Rattle.host_trace.specs.declared.items.Item.{Item}
use Rattle.host_trace.specs.declared.items.Item.TheVariants.{In}
use Rattle.host_trace.specs.declared.items.Why.TheVariants.{NoMemory}
use Rattle.host_trace.specs.Kinds.{is_accepted, is_no_room, names_child}
use Rattle.host_trace.specs.Projections.{shut, shut_for_memory}
use Rattle.host_trace.specs.Trace.{after_step, step_of}
use Rattle.own_traces.specs.OwnFits.{fits_own}
use Rattle.trace_model.specs.Exchanges.{current}
use Rattle.trace_model.specs.Good.{StepGood}
use Rattle.trace_model.specs.Legs.{Leg}
use Rattle.child_core.specs.Calls.{ended}
use Rattle.child_core.specs.declared.ending.Ending.TheVariants.{Dropped}
use Rattle.child_core.specs.Due.{acted as run_acted, acting as run_acting}
use Rattle.child_core.specs.View.{View as Run}
use Rattle.talk_core.specs.Acting.{acting}
use Rattle.talk_core.specs.Hearing.{heard, run_heard, takes_memory}
use Rattle.talk_core.specs.View.{View as Talk, given_up}
use Rattle.talk_laws.specs.TalkIs.{TalkIs, TalkLostIs, TalkRests}

-- the talk whose messages are given in the step: before memory ran out they were given, or not
abbrev pub saying_by : Bool → Talk → Talk
saying_by true t = t
saying_by false t = given_up t

-- then what is due for the child, whose run is ended, and the Shut
abbrev pub lost_acts : ℕ → Bool → Event → Talk → Run → Bool → List Act
lost_acts c said ev t v may =
    (acting (saying_by said (heard t v ev)) ++ run_acting may (ended (run_heard t v ev) Dropped)) ++ Shut c NoMemory ∷ []

-- The step keeps all rules of the connection's part, and the next one may follow.
pub record LosesOn (site : Site) (c : ℕ) (L : List Item) (ev : Event) (legs : List Leg) (continued : Bool) (acts : List Act) (held : Run) : Type 0 where
  pub good : StepGood site c (step_of L ev acts)
  pub talk : TalkLostIs site c (current site c (after_step L ev acts)) legs continued false held
  pub shut_then : shut (after_step L ev acts) c ≡ true
  pub for_memory : shut_for_memory (after_step L ev acts) c ≡ true

-- The event carries what is kept or said, or memory ran out to hear it; the connection was accepted, and not shut.
abbrev pub LossStepsAreGood : Type 0
LossStepsAreGood = (site : Site) (c : ℕ) (L : List Item) (ev : Event) (legs : List Leg) (continued said may : Bool) (t : Talk) (v : Run) (next : ℕ) → 2 ≤ site.limits.head
    → TalkIs site c (current site c L) legs continued t v → TalkRests c (current site c L) t v → fits_own site.limits.children L ev ≡ true
    → ((k : ℕ) → next ≤ k → list_any (names_child k) L ≡ false) → list_any is_accepted L ≡ true → shut L c ≡ false
    → (takes_memory t ev || is_no_room c (In ev)) ≡ true
    → LosesOn site c L ev legs continued (lost_acts c said ev t v may) (run_acted may (ended (run_heard t v ev) Dropped))

-- Later steps are of the child alone; `t` is the talk that was given up.
abbrev pub LaterStepsAreGood : Type 0
LaterStepsAreGood = (site : Site) (c : ℕ) (L : List Item) (ev : Event) (legs : List Leg) (continued may : Bool) (t : Talk) (held : Run) (next : ℕ) → 2 ≤ site.limits.head
    → TalkLostIs site c (current site c L) legs continued false held → t.conn ≡ c → t.over ≡ true → fits_own site.limits.children L ev ≡ true
    → ((k : ℕ) → next ≤ k → list_any (names_child k) L ≡ false) → list_any is_accepted L ≡ true → shut L c ≡ true → shut_for_memory L c ≡ true
    → LosesOn site c L ev legs continued (run_acting may (run_heard t held ev)) (run_acted may (run_heard t held ev))
