-- What ties a talk to a list of items.
use Rattle.std.specs.Prelude.{ℕ, Bool, true, false, ◌||◌, List, [], ◌∷◌, ◌++◌, ◌≡◌, Some, None, is_some, map}
use Rattle.std.specs.List.{list_any}
use Rattle.host_base.specs.declared.launch.Launch.{Launch}
use Rattle.host_base.specs.declared.limits.Limits.{Limits}
use Rattle.host_base.specs.declared.site.ScriptKind.TheVariants.{WebSocket}
use Rattle.host_trace.specs.declared.items.Event.{Event}
use Rattle.host_trace.specs.declared.items.Act.{Act}
use Rattle.host_trace.specs.declared.items.Act.TheVariants.{WantClient, Shut, Start, Feed, EndInput, WantChild, Kill, Release, Says, CloseWs}
use Rattle.host_trace.specs.declared.items.Item.{Item}
use Rattle.host_trace.specs.declared.items.Item.TheVariants.{In, Out}
use Rattle.host_trace.specs.declared.items.Why.{Why}
use Rattle.host_trace.specs.Kinds.{is_event, is_says, is_close_ws, is_ws_text, is_ws_closed, is_no_memory, names_child, texts_said}
use Rattle.host_trace.specs.Projections.{shut, start_stands, stopped}
use Rattle.host_trace.specs.Decider.{is_websocket}
use Rattle.trace_child.specs.Run.{Run, Offer}
use Rattle.trace_child.specs.ChildDemands.{takes_text}
use Rattle.trace_child.specs.ChildGood.{ChildGood}
use Rattle.trace_model.specs.Talk.{talk_end, piece_fed, close_code}
use Rattle.trace_model.specs.Talks.{is_talked, is_talked_in_part}
use Rattle.child_core.specs.View.{View as RunView, begun as run_begun, plain, noted}
use Rattle.child_core.specs.declared.ending.Ending.{Ending}
use Rattle.child_core.specs.Calls.{ended, fits_run, wants_text}
use Rattle.child_core.specs.Due.{Due as RunDue, is_feed_due, acted as run_acted, acting as run_acting}
use Rattle.child_core.specs.Laws.{IsStill}
use Rattle.talk_core.specs.View.{View, begun, given_up}
use Rattle.talk_core.specs.Hearing.{heard, run_heard}
use Rattle.talk_core.specs.Acting.{acted, acting}
use Rattle.talk_core.specs.Setting.{setting}
use Rattle.talk_core.specs.Knows.{KnowsTalk, StandsFor, KnowsInPart, run_of}

-- ---- its beginning

-- the item is of a talk of connection c
abbrev pub is_of_talk : ℕ → Item → Bool
is_of_talk c x = is_says c x || is_close_ws c x || is_ws_text c x || is_ws_closed c x

-- The child is new to the list, nothing was said or heard over the WebSocket, and it is to go on.
abbrev pub TalksBegin : Type 0
TalksBegin = (c k : ℕ) (limits : Limits) (d j hop : ℕ) (launch : Launch) (L : List Item) → list_any (names_child k) L ≡ false
    → list_any (is_of_talk c) L ≡ false → shut L c ≡ false → stopped L ≡ false
    → StandsFor false c limits (begun c k limits.ws_text) (run_begun k WebSocket limits) (L ++ Out (Start k d j hop launch) ∷ [])

-- ---- events

-- A text comes only where one may be heard, and before the talk is over; and once it is over its connection is shut.
-- Of what earlier events made due nothing is left.
pub record MayHear (c : ℕ) (t : View) (v : RunView) (L : List Item) (ev : Event) : Type 0 where
  pub fits : fits_run v ev ≡ true
  pub going : is_ws_text c (In ev) ≡ true → t.over ≡ false
  pub wanted : is_ws_text c (In ev) ≡ true → wants_text v ≡ true
  pub shut : t.over ≡ true → shut L c ≡ true
  pub texts : t.texts ≡ []
  pub code : t.code ≡ None
  pub fed : is_feed_due v ≡ false

-- A talk that hears such an event, and its run, know the list with it.
abbrev pub EventsAreKnown : Type 0
EventsAreKnown = (early : Bool) (c : ℕ) (limits : Limits) (t : View) (v : RunView) (L : List Item) (ev : Event) → StandsFor early c limits t v L
    → MayHear c t v L ev → StandsFor early c limits (heard t v ev) (run_heard t v ev) (L ++ In ev ∷ [])

-- ---- acts

-- what an act makes of the talk
abbrev pub given : View → Act → View
given t (Says d texts) = record t { texts = [] }
given t (CloseWs d code) = record t { code = None }
given t (Shut d why) = given_up t
given t _ = t

-- Nothing is left to be said or sent, and the talk is over; or memory ran out.
pub record MayShut (t : View) (v : RunView) (c : ℕ) (reason : Why) : Type 0 where
  pub conn : c ≡ t.conn
  pub why : (t.over || is_no_memory reason) ≡ true
  pub texts : t.texts ≡ []
  pub code : t.code ≡ None
  pub fed : is_feed_due v ≡ false

-- the act may come next: it is due for the talk, or for its run; the client is asked; or the connection is shut
abbrev pub MayGive : Bool → View → RunView → Act → Type 0
MayGive may t v (Says c texts) = (c ≡ t.conn) × (texts ≡ t.texts)
MayGive may t v (CloseWs c code) = (c ≡ t.conn) × (t.code ≡ Some code)
MayGive may t v (Shut c why) = MayShut t v c why
MayGive may t v (WantClient c) = Unit {0}
MayGive may t v (Feed k bytes) = RunDue may v (Feed k bytes)
MayGive may t v (EndInput k) = RunDue may v (EndInput k)
MayGive may t v (Kill k) = RunDue may v (Kill k)
MayGive may t v (Release k) = RunDue may v (Release k)
MayGive may t v (WantChild k) = RunDue may v (WantChild k)
MayGive may t v _ = ⊥

-- With such an act both know the list.
abbrev pub ActsAreKnown : Type 0
ActsAreKnown = (early may : Bool) (c : ℕ) (limits : Limits) (t : View) (v : RunView) (L : List Item) (act : Act) → StandsFor early c limits t v L
    → MayGive may t v act → StandsFor early c limits (given t act) (noted c v plain (Out act)) (L ++ Out act ∷ [])

-- So it is with all acts that the talk gives, ..
abbrev pub TalkActsAreKnown : Type 0
TalkActsAreKnown = (early : Bool) (c : ℕ) (limits : Limits) (t : View) (v : RunView) (L : List Item) → StandsFor early c limits t v L
    → StandsFor early c limits (acted t) v (L ++ map Out (acting t))

-- .. and with all acts that its run gives.
abbrev pub RunActsAreKnown : Type 0
RunActsAreKnown = (early may : Bool) (c : ℕ) (limits : Limits) (t : View) (v : RunView) (L : List Item) → StandsFor early c limits t v L
    → StandsFor early c limits t (run_acted may v) (L ++ map Out (run_acting may v))

-- ---- want of memory

-- Where memory ran out, what stands is a front of what the talk names.
abbrev pub LossesAreKnown : Type 0
LossesAreKnown = (c : ℕ) (limits : Limits) (t : View) (v : RunView) (L : List Item) → KnowsTalk c limits t v L → KnowsInPart (run_of c limits v) (given_up t) L

-- .. also where it was wanting for an event.
abbrev pub LossesAtEventsAreKnown : Type 0
LossesAtEventsAreKnown = (early : Bool) (c : ℕ) (limits : Limits) (t : View) (v : RunView) (L : List Item) (ev : Event) → StandsFor early c limits t v L
    → MayHear c t v L ev → KnowsInPart (run_of c limits v) (given_up t) (L ++ In ev ∷ [])

-- nothing is said, fed or sent with the item
pub record SaysNothing (c k : ℕ) (x : Item) : Type 0 where
  pub said : texts_said c x ≡ []
  pub fed : piece_fed k x ≡ []
  pub sent : close_code c x ≡ []

-- So it stays; what is heard from then on is heard of a connection that is shut.
abbrev pub PartsStay : Type 0
PartsStay = (run : Run) (t : View) (L : List Item) (x : Item) → KnowsInPart run t L → SaysNothing run.conn run.child x
    → (is_event x ≡ true → shut L run.conn ≡ true) → KnowsInPart run t (L ++ x ∷ [])

-- ---- the end of a step

-- Where nothing is due any more, all that the talk names stands: the messages, the input and the code of the close frame.
abbrev pub EndsAreTalked : Type 0
EndsAreTalked = (early : Bool) (c : ℕ) (limits : Limits) (t : View) (v : RunView) (L : List Item) → StandsFor early c limits t v L → t.texts ≡ [] → t.code ≡ None
    → is_feed_due v ≡ false → is_talked (run_of c limits v) L ≡ true

abbrev pub PartsAreTalked : Type 0
PartsAreTalked = (run : Run) (t : View) (L : List Item) → KnowsInPart run t L → is_talked_in_part run L ≡ true

-- The talk is over exactly where an item ended it.
abbrev pub OverIsExact : Type 0
OverIsExact = (early : Bool) (c : ℕ) (limits : Limits) (t : View) (v : RunView) (L : List Item) → StandsFor early c limits t v L
    → t.over ≡ is_some (talk_end (run_of c limits v) L)

-- A text may be heard exactly where the list says so.
abbrev pub TextsAreWanted : Type 0
TextsAreWanted = (early : Bool) (c : ℕ) (limits : Limits) (t : View) (v : RunView) (L : List Item) → StandsFor early c limits t v L
    → wants_text v ≡ takes_text (run_of c limits v) L

-- One that may be heard may still be heard at the end of a later step, unless a text was heard.
abbrev pub TextsStayWanted : Type 0
TextsStayWanted = (may : Bool) (t : View) (v : RunView) (ev : Event) → is_websocket v.kind ≡ true → v.unfed ≡ [] → is_ws_text t.conn (In ev) ≡ false
    → wants_text v ≡ true → wants_text (run_acted may (run_heard t v ev)) ≡ true

-- A run that was ended for a reason is not changed where it is ended for it again.
abbrev pub EndsOnce : Type 0
EndsOnce = (v : RunView) (ending : Ending) → ended (ended v ending) ending ≡ ended v ending

-- ---- what there is for the input

-- Acts bring nothing for it.
abbrev pub TextsAreHeard : Type 0
TextsAreHeard = (c k : ℕ) (limits : Limits) → IsStill (setting c k limits)

-- the same run, for whose input something else is there
abbrev pub offered_else : Run → (List Item → Offer) → Run
offered_else run offered = record run { offered = offered }

-- wherever the child's Start stands before an item, all is there
abbrev pub IsOfferedWhole : (List Item → Offer) → ℕ → List Item → Type 0
IsOfferedWhole offered k items = (before : List Item) (x : Item) (later : List Item) → items ≡ before ++ x ∷ later → start_stands before k ≡ true
    → (offered before).whole ≡ true

-- The rules on a talk and on its child don't depend on what there is for the input, where all is there.
pub record AreAlike (run : Run) (offered : List Item → Offer) (items : List Item) : Type 0 where
  pub ended_by : talk_end (offered_else run offered) items ≡ talk_end run items
  pub talked : is_talked (offered_else run offered) items ≡ is_talked run items
  pub in_part : is_talked_in_part (offered_else run offered) items ≡ is_talked_in_part run items
  pub child : (room : Bool) (before : List Item) (acts : List Act) → ChildGood run room before acts items → ChildGood (offered_else run offered) room before acts items

abbrev pub InputsAreAlike : Type 0
InputsAreAlike = (run : Run) (offered : List Item → Offer) (items : List Item) → is_websocket run.kind ≡ true → IsOfferedWhole run.offered run.child items
    → IsOfferedWhole offered run.child items → AreAlike run offered items
