-- How a talk goes on within a step: with its event, with each act, and where memory runs out.
use Rattle.std.specs.Prelude.{ℕ, ◌≡◌, ◌≤◌, Bool, true, false, List, [], None}
use Rattle.host_base.specs.declared.site.Site.{Site}
use Rattle.host_trace.specs.declared.items.Act.TheVariants.{Shut, WantClient}
use Rattle.host_trace.specs.declared.items.Event.{Event}
use Rattle.host_trace.specs.declared.items.Item.TheVariants.{In, Out}
use Rattle.host_trace.specs.declared.items.Why.{Why}
use Rattle.host_trace.specs.declared.items.Why.TheVariants.{NoMemory}
use Rattle.host_trace.specs.Kinds.{is_no_memory}
use Rattle.host_trace.specs.Projections.{client_wanted, shut}
use Rattle.own_traces.specs.OwnFits.{fits_own}
use Rattle.trace_model.specs.Exchange.{Exchange, all_of, pushed}
use Rattle.trace_model.specs.Legs.{Leg}
use Rattle.child_core.specs.Calls.{ended, wants_text}
use Rattle.child_core.specs.declared.ending.Ending.TheVariants.{Dropped}
use Rattle.child_core.specs.Due.{acted as run_acted, acting as run_acting, is_feed_due}
use Rattle.child_core.specs.View.{View as Run}
use Rattle.child_laws.specs.Laws.{with_acts}
use Rattle.talk_core.specs.Acting.{acted, acting}
use Rattle.talk_core.specs.Hearing.{heard, run_heard, takes_memory}
use Rattle.talk_core.specs.View.{View as Talk, given_up}
use Rattle.talk_laws.specs.TalkIs.{TalkIs, TalkLostIs, TalkRests}

-- ---- events

-- An event that fits makes of a talk, and of its run, what they hear of it: texts, a binary message, a close, a frame that
-- is refused, the end of the client, want of memory to hear it, what the child does, a Tick, and Stop.
abbrev pub EventsKeepTalks : Type 0
EventsKeepTalks = (site : Site) (c : ℕ) (e : Exchange) (legs : List Leg) (continued : Bool) (t : Talk) (v : Run) (ev : Event) → 2 ≤ site.limits.head
    → TalkIs site c e legs continued t v → TalkRests c e t v → fits_own site.limits.children (all_of e) ev ≡ true
    → TalkIs site c (pushed e (In ev)) legs continued (heard t v ev) (run_heard t v ev)

-- Of one that carries nothing for it nothing is to be said or fed, so no memory is wanted for what is due.
pub record IsQuiet (t : Talk) (v : Run) (ev : Event) : Type 0 where
  pub texts : (heard t v ev).texts ≡ []
  pub fed : is_feed_due (run_heard t v ev) ≡ false

abbrev pub QuietEventsTakeNone : Type 0
QuietEventsTakeNone = (site : Site) (c : ℕ) (e : Exchange) (legs : List Leg) (continued : Bool) (t : Talk) (v : Run) (ev : Event) → TalkIs site c e legs continued t v
    → TalkRests c e t v → takes_memory t ev ≡ false → IsQuiet t v ev

-- ---- acts

-- What is due for the talk is given: messages, and the close frame ..
abbrev pub TalkActsMove : Type 0
TalkActsMove = (site : Site) (c : ℕ) (e : Exchange) (legs : List Leg) (continued : Bool) (t : Talk) (v : Run) → 2 ≤ site.limits.head
    → TalkIs site c e legs continued t v → TalkIs site c (with_acts e (acting t)) legs continued (acted t) v

-- .. and what is due for its child.
abbrev pub ChildActsMove : Type 0
ChildActsMove = (site : Site) (c : ℕ) (e : Exchange) (legs : List Leg) (continued may : Bool) (t : Talk) (v : Run) → 2 ≤ site.limits.head
    → TalkIs site c e legs continued t v → TalkIs site c (with_acts e (run_acting may v)) legs continued t (run_acted may v)

-- The client is asked for a text that may be heard ..
abbrev pub AsksMove : Type 0
AsksMove = (site : Site) (c : ℕ) (e : Exchange) (legs : List Leg) (continued : Bool) (t : Talk) (v : Run) → 2 ≤ site.limits.head
    → TalkIs site c e legs continued t v → client_wanted (all_of e) c ≡ false → wants_text v ≡ true → is_feed_due v ≡ false
    → TalkIs site c (pushed e (Out (WantClient c))) legs continued t v

-- .. and a connection whose talk is over is shut; or memory ran out for its event, and the Shut says so.
pub record ShutsMoveTalk (site : Site) (c : ℕ) (e : Exchange) (legs : List Leg) (continued : Bool) (t : Talk) (v : Run) : Type 0 where
  pub plain : (why : Why) → is_no_memory why ≡ false → TalkIs site c (pushed e (Out (Shut c why))) legs continued (given_up t) v
  pub memory : TalkIs site c (pushed e (Out (Shut c NoMemory))) legs continued (given_up t) (ended v Dropped)

abbrev pub ShutsMove : Type 0
ShutsMove = (site : Site) (c : ℕ) (e : Exchange) (legs : List Leg) (continued : Bool) (t : Talk) (v : Run) → 2 ≤ site.limits.head
    → TalkIs site c e legs continued t v → t.over ≡ true → t.texts ≡ [] → t.code ≡ None → is_feed_due v ≡ false → ShutsMoveTalk site c e legs continued t v

-- ---- want of memory

-- The talk is given up, and its run ended, ..
abbrev pub LossesMove : Type 0
LossesMove = (site : Site) (c : ℕ) (e : Exchange) (legs : List Leg) (continued : Bool) (t : Talk) (v : Run)
    → TalkIs site c e legs continued t v → TalkLostIs site c e legs continued true (ended v Dropped)

-- .. what is due for the child then is given, before that Shut and after it, ..
abbrev pub LostActsMove : Type 0
LostActsMove = (site : Site) (c : ℕ) (e : Exchange) (legs : List Leg) (continued early may : Bool) (held : Run) → 2 ≤ site.limits.head
    → TalkLostIs site c e legs continued early held
    → TalkLostIs site c (with_acts e (run_acting may held)) legs continued early (run_acted may held)

-- .. and the Shut says so.
abbrev pub LostShutsMove : Type 0
LostShutsMove = (site : Site) (c : ℕ) (e : Exchange) (legs : List Leg) (continued : Bool) (held : Run) → 2 ≤ site.limits.head
    → TalkLostIs site c e legs continued true held → TalkLostIs site c (pushed e (Out (Shut c NoMemory))) legs continued false held

-- What comes then is of the child alone.
abbrev pub EventsKeepLost : Type 0
EventsKeepLost = (site : Site) (c : ℕ) (e : Exchange) (legs : List Leg) (continued : Bool) (t : Talk) (held : Run) (ev : Event) → 2 ≤ site.limits.head
    → TalkLostIs site c e legs continued false held → t.conn ≡ c → t.over ≡ true → shut (all_of e) c ≡ true → fits_own site.limits.children (all_of e) ev ≡ true
    → TalkLostIs site c (pushed e (In ev)) legs continued false (run_heard t held ev)
