-- How the stage of an exchange keeps step with the model, item by item.
use Rattle.std.specs.Prelude.{not, ◌&&◌, ℕ, ◌≡◌, ◌≤◌, Bool, true, false, ◌||◌, List, [], ◌∷◌, ◌++◌, None}
use Rattle.std.specs.List.{list_any}
use Rattle.host_base.specs.declared.launch.Launch.{Launch}
use Rattle.host_base.specs.declared.site.Site.{Site}
use Rattle.host_base.specs.declared.cause.Cause.{Cause}
use Rattle.host_trace.specs.declared.items.Act.{Act}
use Rattle.host_trace.specs.declared.items.Act.TheVariants.{Start, Write}
use Rattle.host_trace.specs.declared.items.Event.{Event}
use Rattle.host_trace.specs.declared.items.Item.{Item}
use Rattle.host_trace.specs.declared.items.Item.TheVariants.{In, Out}
use Rattle.host_trace.specs.Kinds.{bytes_heard, bytes_written, child_started, is_child_eof, is_tick, names_child, output_heard}
use Rattle.trace_child.specs.Decided.{decided_at}
use Rattle.trace_child.specs.Words.{is_filled}
use Rattle.trace_model.specs.Breaks.{break_cause, breaks}
use Rattle.trace_model.specs.Demands.{client_ended}
use Rattle.trace_model.specs.Exchange.{Exchange, continue_text, first_exchange, pushed}
use Rattle.trace_model.specs.Exchanges.{following, has_ended}
use Rattle.trace_model.specs.Legs.{Leg, run_of}
use Rattle.exchange_reply.specs.StepRules.{wrote}
use Rattle.exchange_stage.specs.declared.stage.Leg.{Leg as Held}
use Rattle.exchange_stage.specs.declared.stage.Stage.{Stage}
use Rattle.exchange_stage.specs.declared.stage.Stage.TheVariants as At
use Rattle.exchange_laws.specs.Walked.{IsLast}
use Rattle.exchange_laws.specs.Unanswered.{is_awaited}
use Rattle.exchange_laws.specs.OfRun.{leg_held}
use Rattle.exchange_laws.specs.StageIs.{IsLost, StageIs}

-- ---- an item that comes by itself

abbrev pub is_nothing : List ℕ → Bool
is_nothing [] = true
is_nothing (byte ∷ bytes) = false

-- Items may come at this stage: nothing is to be written or started now. (Where no script was started and the whole
-- answer stands the exchange has ended.)
abbrev pub is_calm : List Leg → Stage → Bool
is_calm legs At.Reading = true
is_calm legs (At.Rejected cause bare) = false
is_calm legs (At.Interrupted cause) = false
is_calm legs (At.Refused cause) = true
is_calm legs (At.Unstarted hop request) = true
is_calm legs (At.Starting held launch body whole) = false
is_calm legs (At.Running held) = is_nothing held.text
is_calm legs (At.Finishing text closes) = false
is_calm legs At.Answered = is_filled legs
is_calm legs At.Silent = true

-- what an item makes of the stage: a Tick is kept for the reply
abbrev pub noted_by : Item → Stage → Stage
noted_by x (At.Running held) = At.Running (record held { ticked = is_tick x || held.ticked })
noted_by x s = s

-- The item writes nothing and starts no script, and breaks no request for which none was started. Where bytes of the
-- client come, it had not ended its input, and 100 Continue doesn't wait to be written; where the output ends or a Tick
-- comes while the run goes on, all output was told.
pub record Passes (site : Site) (c : ℕ) (e : Exchange) (legs : List Leg) (continued looked : Bool) (more : List ℕ) (x : Item) (looked_then : Bool) (more_then : List ℕ) : Type 0 where
  pub unwritten : bytes_written c x ≡ []
  pub starts_none : child_started c x ≡ []
  pub breaks_none : legs ≡ [] → breaks site c e e.items x ≡ false
  pub looked_is : looked_then ≡ true → (looked ≡ true) × (bytes_heard c x ≡ [])
  pub let_on : is_filled (bytes_heard c x) ≡ true → continued ≡ false → is_awaited site c e ≡ false
  pub unended : client_ended c e.items ≡ true → bytes_heard c x ≡ []
  pub more_is : (leg : Leg) → IsLast site c e legs leg → more_then ≡ more ++ output_heard leg.child x
  pub drained : (leg : Leg) → IsLast site c e legs leg → decided_at (run_of site c e leg) e.items ≡ None → (is_tick x || is_child_eof leg.child x) ≡ true → more ≡ []

-- Events, and acts of the child, leave the stage.
abbrev pub ItemsKeepStages : Type 0
ItemsKeepStages = (site : Site) (c : ℕ) (e : Exchange) (legs : List Leg) (continued looked closing : Bool) (more : List ℕ) (x : Item) (looked_then : Bool)
    (more_then : List ℕ) (s : Stage) → 2 ≤ site.limits.head → is_calm legs s ≡ true → StageIs site c e legs continued looked closing more s
    → Passes site c e legs continued looked more x looked_then more_then
    → StageIs site c (pushed e x) legs continued looked_then closing more_then (noted_by x s)

-- .. also where memory ran out; there a run that goes on hears no Tick and no end of its output before the connection
-- is shut.
pub record PassesLost (site : Site) (c : ℕ) (e : Exchange) (legs : List Leg) (continued : Bool) (x : Item) : Type 0 where
  pub unwritten : bytes_written c x ≡ []
  pub starts_none : child_started c x ≡ []
  pub let_on : is_filled (bytes_heard c x) ≡ true → continued ≡ false → is_awaited site c e ≡ false
  pub undecided : (leg : Leg) → IsLast site c e legs leg → decided_at (run_of site c e leg) e.items ≡ None → (is_tick x || is_child_eof leg.child x) ≡ false

abbrev pub ItemsKeepLost : Type 0
ItemsKeepLost = (site : Site) (c : ℕ) (e : Exchange) (legs : List Leg) (continued : Bool) (x : Item) → 2 ≤ site.limits.head → IsLost site c e legs continued
    → PassesLost site c e legs continued x → IsLost site c (pushed e x) legs continued

-- ---- which items come by themselves

-- the last leg is one
abbrev pub LastLegsAreOne : Type 0
LastLegsAreOne = (site : Site) (c : ℕ) (e : Exchange) (legs before : List Leg) (leg other : Leg) → legs ≡ before ++ leg ∷ [] → IsLast site c e legs other → other ≡ leg

pub record ActsPass (site : Site) (c : ℕ) (e : Exchange) (legs : List Leg) (continued looked : Bool) (more : List ℕ) (act : Act) : Type 0 where
  pub kept : Passes site c e legs continued looked more (Out act) looked more
  pub lost : PassesLost site c e legs continued (Out act)

-- An act that writes nothing and starts no script.
abbrev pub QuietActsPass : Type 0
QuietActsPass = (site : Site) (c : ℕ) (e : Exchange) (legs : List Leg) (continued looked : Bool) (more : List ℕ) (act : Act)
    → bytes_written c (Out act) ≡ [] → child_started c (Out act) ≡ [] → ActsPass site c e legs continued looked more act

-- they write nothing and start no script
abbrev pub AreQuiet : ℕ → List Act → Type 0
AreQuiet c [] = Unit {0}
AreQuiet c (act ∷ acts) = (bytes_written c (Out act) ≡ []) × (child_started c (Out act) ≡ []) × AreQuiet c acts

abbrev pub with_acts : Exchange → List Act → Exchange
with_acts e [] = e
with_acts e (act ∷ acts) = with_acts (pushed e (Out act)) acts

pub record ActsKeep (site : Site) (c : ℕ) (e : Exchange) (legs : List Leg) (continued looked closing : Bool) (more : List ℕ) (acts : List Act) : Type 0 where
  pub kept : (s : Stage) → is_calm legs s ≡ true → StageIs site c e legs continued looked closing more s
      → StageIs site c (with_acts e acts) legs continued looked closing more s
  pub lost : IsLost site c e legs continued → IsLost site c (with_acts e acts) legs continued

-- Such acts, as the child's, leave the stage.
abbrev pub QuietActsKeep : Type 0
QuietActsKeep = (site : Site) (c : ℕ) (e : Exchange) (legs : List Leg) (continued looked closing : Bool) (more : List ℕ) (acts : List Act) → 2 ≤ site.limits.head
    → AreQuiet c acts → ActsKeep site c e legs continued looked closing more acts

-- what an event is to leave, where k is the child of the last leg
pub record MayHear (site : Site) (c : ℕ) (e : Exchange) (legs : List Leg) (continued : Bool) (more : List ℕ) (k : ℕ) (ev : Event) : Type 0 where
  pub breaks_none : legs ≡ [] → breaks site c e e.items (In ev) ≡ false
  pub let_on : is_filled (bytes_heard c (In ev)) ≡ true → continued ≡ false → is_awaited site c e ≡ false
  pub unended : client_ended c e.items ≡ true → bytes_heard c (In ev) ≡ []
  pub child_is : (leg : Leg) → IsLast site c e legs leg → leg.child ≡ k
  pub drained : (leg : Leg) → IsLast site c e legs leg → decided_at (run_of site c e leg) e.items ≡ None → (is_tick (In ev) || is_child_eof k (In ev)) ≡ true → more ≡ []

-- An event after which what was heard is looked at still where no bytes came.
abbrev pub EventsPass : Type 0
EventsPass = (site : Site) (c : ℕ) (e : Exchange) (legs : List Leg) (continued looked : Bool) (more : List ℕ) (k : ℕ) (ev : Event)
    → MayHear site c e legs continued more k ev
    → Passes site c e legs continued looked more (In ev) (looked && not (is_filled (bytes_heard c (In ev)))) (more ++ output_heard k (In ev))

-- ---- an item that breaks the request

-- a request for which no script was started may be broken
abbrev pub is_breakable_at : Stage → Bool
is_breakable_at At.Reading = true
is_breakable_at (At.Unstarted hop request) = true
is_breakable_at _ = false

abbrev pub cause_by : Item → Cause
cause_by x = break_cause (x ∷ [])

-- The end of the client's input, or the idle Tick.
abbrev pub BreaksInterrupt : Type 0
BreaksInterrupt = (site : Site) (c : ℕ) (e : Exchange) (legs : List Leg) (continued looked closing : Bool) (more : List ℕ) (x : Item) (s : Stage)
    → is_breakable_at s ≡ true → looked ≡ true → StageIs site c e legs continued looked closing more s → breaks site c e e.items x ≡ true
    → StageIs site c (pushed e x) legs continued looked closing more (At.Interrupted (cause_by x))

-- ---- acts of its own

-- it is on the way to an answer, and nothing of the final one is written
abbrev pub is_unanswered : Stage → Bool
is_unanswered At.Reading = true
is_unanswered (At.Rejected cause bare) = true
is_unanswered (At.Interrupted cause) = true
is_unanswered (At.Refused cause) = true
is_unanswered (At.Unstarted hop request) = true
is_unanswered _ = false

abbrev pub ContinuesAreWritten : Type 0
ContinuesAreWritten = (site : Site) (c : ℕ) (e : Exchange) (legs : List Leg) (looked closing : Bool) (more : List ℕ) (s : Stage)
    → 2 ≤ site.limits.head → is_unanswered s ≡ true → StageIs site c e legs false looked closing more s → is_awaited site c e ≡ true
    → StageIs site c (pushed e (Out (Write c continue_text))) legs true looked closing more s

-- A part of the reply of a run that goes on.
abbrev pub PartsAreWritten : Type 0
PartsAreWritten = (site : Site) (c : ℕ) (e : Exchange) (legs : List Leg) (continued looked closing : Bool) (more : List ℕ) (held : Held)
    → 2 ≤ site.limits.head → StageIs site c e legs continued looked closing more (At.Running held)
    → StageIs site c (wrote c e held.text) legs continued looked closing more (At.Running (record held { text = [] }))

-- The rest of the answer.
abbrev pub RestsAreWritten : Type 0
RestsAreWritten = (site : Site) (c : ℕ) (e : Exchange) (legs : List Leg) (continued looked closing : Bool) (more text : List ℕ) (closes : Bool)
    → 2 ≤ site.limits.head → StageIs site c e legs continued looked closing more (At.Finishing text closes)
    → StageIs site c (wrote c e text) legs continued looked (closing || closes) more At.Answered

-- The Start of a script, by a number that no item names.
abbrev pub StartsAreGiven : Type 0
StartsAreGiven = (site : Site) (c : ℕ) (e : Exchange) (legs : List Leg) (continued looked closing : Bool) (more : List ℕ) (held : Held) (launch : Launch)
    (body : List ℕ) (whole : Bool) (k : ℕ) → 2 ≤ site.limits.head → StageIs site c e legs continued looked closing more (At.Starting held launch body whole)
    → list_any (names_child k) e.items ≡ false
    → StageIs site c (pushed e (Out (Start k c e.number held.hop launch))) (legs ++ leg_held held k ∷ []) continued looked closing [] (At.Running held)

-- ---- the next exchange

-- An exchange that has ended is followed by one whose request is to be read.
abbrev pub NextIsRead : Type 0
NextIsRead = (site : Site) (c : ℕ) (e : Exchange) (legs : List Leg) (continued looked closing : Bool) (more : List ℕ)
    → StageIs site c e legs continued looked closing more At.Answered → has_ended site c e ≡ true
    → StageIs site c (following site c e) [] false false closing [] At.Reading

-- The first one begins before anything was heard.
abbrev pub FirstIsRead : Type 0
FirstIsRead = (site : Site) (c : ℕ) → 2 ≤ site.limits.head → StageIs site c first_exchange [] false true false [] At.Reading
