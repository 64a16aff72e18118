-- What holds of exchanges, answers and good traces.
use Rattle.std.specs.Prelude.{ℕ, true, false, List, [], ◌∷◌, ◌++◌, ◌≡◌, ◌≢◌, ◌≤◌, ◌<◌, map, take, length, Some, None}
use Rattle.std.specs.List.{flat_map}
use Rattle.host_base.specs.declared.cause.Cause.{Cause}
use Rattle.host_base.specs.declared.launch.Launch.{Launch}
use Rattle.host_base.specs.declared.site.Site.{Site}
use Rattle.host_trace.specs.declared.items.Act.{Act}
use Rattle.host_trace.specs.declared.items.Act.TheVariants.{Start, Write}
use Rattle.host_trace.specs.declared.items.Event.{Event}
use Rattle.host_trace.specs.declared.items.Item.{Item}
use Rattle.host_trace.specs.declared.items.Item.TheVariants.{In, Out}
use Rattle.host_trace.specs.declared.items.Why.{Why}
use Rattle.host_trace.specs.First.{first_front}
use Rattle.host_trace.specs.Projections.{accepted_count, children, client_in, is_pending_high, own, own_after, start_count}
use Rattle.host_trace.specs.Trace.{step_of, after_step}
use Rattle.request_reader.specs.Request.{Reading, Whole, More, Bad, used_by}
use Rattle.own_traces.specs.Whose.{are_of, Rises}
use Rattle.own_traces.specs.Between.{Between}
use Rattle.trace_model.specs.Exchange.{Exchange, pushed, all_of, reading, request_bytes, continue_part, has_final, has_start}
use Rattle.trace_model.specs.Answers.{begins_in_turn}
use Rattle.trace_model.specs.Between.{are_in_turn}
use Rattle.trace_model.specs.Demands.{must_begin, must_hear, waits_its_turn}
use Rattle.trace_model.specs.Launches.{is_right_start}
use Rattle.trace_model.specs.Breaks.{broken}
use Rattle.trace_model.specs.Answer.{answer, stage, undecided}
use Rattle.trace_model.specs.Exchanges.{has_ended, following, current, ended}
use Rattle.trace_model.specs.Completed.{IsAnsweredInOrder, IsAnsweredByTrace}
use Rattle.trace_model.specs.Replies.{replies}
use Rattle.trace_model.specs.Good.{GoodFor, StepGood, Good}
use Rattle.trace_model.specs.Closes.{is_first_byte, way, closes}
use Rattle.trace_model.specs.Sameness.{is_same_cause, is_same_why, is_same_launch}
use Rattle.trace_model.specs.Verdict.{broken_by}

-- ---- the cut

-- the bytes of the client that a request used
abbrev pub used : Site → ℕ → Exchange → List ℕ
used site c e = take (used_by (reading site c e)) (request_bytes c e)

abbrev pub items_of_exchange : Exchange → List Item
items_of_exchange e = e.items

-- Each item of a connection is of one exchange, and each byte of its client of one request or of what goes on.
pub record IsCut (site : Site) (c : ℕ) (L : List Item) : Type 0 where
  pub items : flat_map items_of_exchange (ended site c L) ++ (current site c L).items ≡ L
  pub whole_list : all_of (current site c L) ≡ L
  pub heard : client_in L c ≡ flat_map (used site c) (ended site c L) ++ request_bytes c (current site c L)

abbrev pub ExchangesAreACut : Type 0
ExchangesAreACut = (site : Site) (c : ℕ) (L : List Item) → IsCut site c L

-- An exchange that has ended is never changed.
abbrev pub EndedStay : Type 0
EndedStay = (site : Site) (c : ℕ) (L more : List Item) → (later : List Exchange) × (ended site c (L ++ more) ≡ ended site c L ++ later)

-- One item more is of the exchange that goes on, and ends it where its whole answer stands then and its children are
-- settled.
pub record IsNextItem (site : Site) (c : ℕ) (L : List Item) (x : Item) : Type 0 where
  pub on : has_ended site c (pushed (current site c L) x) ≡ false → current site c (L ++ x ∷ []) ≡ pushed (current site c L) x
  pub over : has_ended site c (pushed (current site c L) x) ≡ true → current site c (L ++ x ∷ []) ≡ following site c (pushed (current site c L) x)

abbrev pub ItemsAreOfTheCurrent : Type 0
ItemsAreOfTheCurrent = (site : Site) (c : ℕ) (L : List Item) (x : Item) → IsNextItem site c L x

-- ---- answers

-- The answer of an exchange for which a child was started, and whose request nothing broke, stays once there is one.
abbrev pub AnswersStay : Type 0
AnswersStay = (site : Site) (c : ℕ) (e : Exchange) (x : Item) → 2 ≤ site.limits.head → has_start c e ≡ true → broken site c e ≡ None
    → answer site c e ≢ undecided → answer site c (pushed e x) ≡ answer site c e

-- the Write of the first byte of the final answer stands at the end of these items
abbrev pub BeginsAt : Site → ℕ → Exchange → List Item → Type 0
BeginsAt site c e front = first_front (is_first_byte c (length (continue_part site c e))) e.items ≡ Some front

-- the head of the request is whole, or the request was refused as it was read
abbrev pub IsHeaded : Reading → Type 0
IsHeaded (Whole request used due) = Unit {0}
IsHeaded (More None due) = ⊥
IsHeaded (More (Some request) due) = Unit {0}
IsHeaded (Bad cause bare) = Unit {0}

-- version, HEAD, closing, Date, and whether it was known as a whole
pub record SpelledAsBefore (site : Site) (c : ℕ) (e : Exchange) (x : Item) : Type 0 where
  pub continues_then : continue_part site c (pushed e x) ≡ continue_part site c e
  pub way_then : way site c (pushed e x) ≡ way site c e
  pub closes_then : closes site c (pushed e x) ≡ closes site c e

-- All that a spelling depends on beside its reply stays from the first byte on.
abbrev pub SpellingsStay : Type 0
SpellingsStay = (site : Site) (c : ℕ) (e : Exchange) (x : Item) (front : List Item) → 2 ≤ site.limits.head → IsHeaded (reading site c e)
    → BeginsAt site c e front → SpelledAsBefore site c e x

-- Every reply completed is the one that RFC 3875 derives from its child's whole output, or a named status whose cause
-- stands in the trace.
abbrev pub CompletedRepliesAreDerived : Type 0
CompletedRepliesAreDerived = (site : Site) (c : ℕ) (L : List Item) → IsAnsweredInOrder site c L

-- The same of a trace of many connections.
abbrev pub RepliesOfTracesAreDerived : Type 0
RepliesOfTracesAreDerived = (site : Site) (c : ℕ) (T : List Item) → Between T → IsAnsweredByTrace site c T

-- At the end of a connection's items that are good, what was written of the exchange that goes on may stand.
abbrev pub WhatGoesOnMayStand : Type 0
WhatGoesOnMayStand = (site : Site) (c : ℕ) (event : Event) (items : List Item) → GoodFor site c (In event ∷ items)
    → replies site c (current site c (In event ∷ items)) ≡ true

-- ---- room

-- while too much waits to be sent, no Start is right, no answer that waits its turn begins in form, the client is not
-- to be asked, and nothing is to begin
pub record WaitsForRoom (site : Site) (c : ℕ) (e : Exchange) : Type 0 where
  pub start : (k d j hop : ℕ) (launch : Launch) → is_right_start site c e (Start k d j hop launch) ≡ false
  pub answer : (d : ℕ) (bytes : List ℕ) → waits_its_turn (stage site c e) ≡ true → has_final site c e ≡ false
      → has_final site c (pushed e (Out (Write d bytes))) ≡ true → begins_in_turn site c e (Write d bytes) ≡ false
  pub question : must_hear site c e ≡ false
  pub begins : must_begin site c e ≡ false

abbrev pub ThingsWaitForRoom : Type 0
ThingsWaitForRoom = (site : Site) (c : ℕ) (e : Exchange) → is_pending_high (all_of e) c ≡ true → WaitsForRoom site c e

-- ---- good traces

-- Acts of one connection that was accepted keep the rule on owners in a step that concerns it ..
abbrev pub OwnActsKeepOwners : Type 0
OwnActsKeepOwners = (T : List Item) (c low : ℕ) (acts : List Act) → Between T → c < accepted_count T
    → are_of c (children T c) (start_count T) acts ≡ true → are_in_turn T (Some c) low acts ≡ true

-- .. and acts that rise from connection to connection keep it in one that concerns all.
abbrev pub RisingActsKeepOwners : Type 0
RisingActsKeepOwners = (T : List Item) (low high : ℕ) (acts : List Act) → Between T → high < accepted_count T
    → Rises T low acts high → are_in_turn T None low acts ≡ true

-- In a step that joins the items of a connection its part goes on with that step ..
abbrev pub PartsGoOn : Type 0
PartsGoOn = (site : Site) (c : ℕ) (T : List Item) (event : Event) (acts mine : List Act)
    → own_after T c (In event ∷ map Out acts) ≡ In event ∷ map Out mine
    → GoodFor site c (own T c) → StepGood site c (step_of (own T c) event mine) → GoodFor site c (own (after_step T event acts) c)

-- .. and in one that doesn't, it is what it was.
abbrev pub PartsAreLeft : Type 0
PartsAreLeft = (site : Site) (c : ℕ) (T : List Item) (event : Event) (acts : List Act)
    → own_after T c (In event ∷ map Out acts) ≡ [] → GoodFor site c (own T c) → GoodFor site c (own (after_step T event acts) c)

-- A trace that breaks no rule is good.
abbrev pub VerdictsAreRight : Type 0
VerdictsAreRight = (site : Site) (T : List Item) → broken_by site T ≡ [] → Good site T

-- What the tests of sameness call the same is the same.
pub record TestsTellApart : Type 0 where
  pub causes : (a b : Cause) → is_same_cause a b ≡ true → a ≡ b
  pub whys : (a b : Why) → is_same_why a b ≡ true → a ≡ b
  pub launches : (a b : Launch) → is_same_launch a b ≡ true → a ≡ b
