-- A whole step of a connection whose talk goes on or is over, memory being found.
use Rattle.std.specs.Prelude.{ℕ, ◌≡◌, ◌≤◌, Bool, true, false, not, ◌&&◌, List, [], ◌∷◌, ◌++◌, Option, Some, None}
use Rattle.std.specs.List.{list_any}
use Rattle.host_base.specs.declared.site.Site.{Site}
use Rattle.host_trace.specs.declared.items.Act.{Act}
use Rattle.host_trace.specs.declared.items.Act.TheVariants.{Shut, WantClient}
use Rattle.host_trace.specs.declared.items.Event.{Event}
use Rattle.host_trace.specs.declared.items.Item.{Item}
use Rattle.host_trace.specs.declared.items.Item.TheVariants.{In}
use Rattle.host_trace.specs.declared.items.Why.{Why}
use Rattle.host_trace.specs.Kinds.{is_accepted, is_no_room, names_child}
use Rattle.host_trace.specs.Projections.{client_wanted}
use Rattle.host_trace.specs.Trace.{after_step, step_of}
use Rattle.own_traces.specs.OwnFits.{fits_own}
use Rattle.trace_model.specs.Demands.{has_room, is_live}
use Rattle.trace_model.specs.Exchange.{Exchange, all_of, pushed}
use Rattle.trace_model.specs.Exchanges.{current}
use Rattle.trace_model.specs.Good.{StepGood}
use Rattle.trace_model.specs.Legs.{Leg}
use Rattle.child_core.specs.Calls.{wants_text}
use Rattle.child_core.specs.Due.{acted as run_acted, acting as run_acting}
use Rattle.child_core.specs.View.{View as Run}
use Rattle.child_laws.specs.Laws.{with_acts}
use Rattle.talk_core.specs.Acting.{acted, acting}
use Rattle.talk_core.specs.Hearing.{heard, run_heard}
use Rattle.talk_core.specs.View.{View as Talk, given_up}
use Rattle.talk_laws.specs.Rules.{why_at}
use Rattle.talk_laws.specs.TalkIs.{TalkIs, TalkRests}

-- ---- what is given

-- the exchange once the event was heard, and all was given that is due for the talk and its child; `may`: the child's
-- output may be asked for
abbrev pub served_by : Exchange → Event → Talk → Run → Bool → Exchange
served_by e ev t v may = with_acts (with_acts (pushed e (In ev)) (acting (heard t v ev))) (run_acting may (run_heard t v ev))

-- the connection is shut where it is live and there is a reason, or its client asked where that is due
abbrev pub tail_by : ℕ → Bool → Option Why → Bool → List Act
tail_by c false why due = []
tail_by c true (Some why) due = Shut c why ∷ []
tail_by c true None true = WantClient c ∷ []
tail_by c true None false = []

abbrev pub tail_at : ℕ → Exchange → Talk → Run → List Act
tail_at c e t v =
    tail_by c (is_live c (all_of e)) (why_at c (all_of e) t.over) (has_room c (all_of e) && wants_text v && not (client_wanted (all_of e) c))

abbrev pub step_acts : ℕ → Exchange → Event → Talk → Run → Bool → List Act
step_acts c e ev t v may =
    (acting (heard t v ev) ++ run_acting may (run_heard t v ev)) ++ tail_at c (served_by e ev t v may) (acted (heard t v ev)) (run_acted may (run_heard t v ev))

-- the talk after it: given up where the connection is shut
abbrev pub talk_by : Bool → Option Why → Talk → Talk
talk_by true (Some why) t = given_up t
talk_by _ _ t = t

abbrev pub talk_after : ℕ → Exchange → Event → Talk → Run → Bool → Talk
talk_after c e ev t v may =
    talk_by (is_live c (all_of (served_by e ev t v may))) (why_at c (all_of (served_by e ev t v may)) (acted (heard t v ev)).over) (acted (heard t v ev))

-- ---- and that it is good

-- The step keeps all rules of the connection's part, and the next one may follow.
pub record StepsOn (site : Site) (c : ℕ) (L : List Item) (ev : Event) (legs : List Leg) (continued : Bool) (acts : List Act) (t : Talk) (v : Run) : Type 0 where
  pub good : StepGood site c (step_of L ev acts)
  pub talk : TalkIs site c (current site c (after_step L ev acts)) legs continued t v
  pub rests : TalkRests c (current site c (after_step L ev acts)) t v

-- The connection was accepted, memory was found to hear it, and the child's output may be asked for exactly where not too
-- much waits to be sent at the step's end.
abbrev pub TalkStepsAreGood : Type 0
TalkStepsAreGood = (site : Site) (c : ℕ) (L : List Item) (ev : Event) (legs : List Leg) (continued : Bool) (t : Talk) (v : Run) (may : Bool) (next : ℕ) → 2 ≤ site.limits.head
    → TalkIs site c (current site c L) legs continued t v → TalkRests c (current site c L) t v → fits_own site.limits.children L ev ≡ true
    → ((k : ℕ) → next ≤ k → list_any (names_child k) L ≡ false) → list_any is_accepted L ≡ true → list_any (is_no_room c) (L ++ In ev ∷ []) ≡ false
    → may ≡ has_room c (after_step L ev (step_acts c (current site c L) ev t v may))
    → StepsOn site c L ev legs continued (step_acts c (current site c L) ev t v may) (talk_after c (current site c L) ev t v may) (run_acted may (run_heard t v ev))
