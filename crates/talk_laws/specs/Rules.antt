-- The rules of the model on a WebSocket, at the end of a step.
use Rattle.std.specs.Prelude.{ℕ, ◌≡◌, Bool, true, false, not, ◌&&◌, if◌then◌else◌, List, [], Option, Some, None}
use Rattle.std.specs.List.{list_any}
use Rattle.host_base.specs.declared.site.Site.{Site}
use Rattle.host_trace.specs.declared.items.Item.{Item}
use Rattle.host_trace.specs.declared.items.Why.{Why}
use Rattle.host_trace.specs.declared.items.Why.TheVariants.{Done, Gone, NoMemory, Stopped}
use Rattle.host_trace.specs.Kinds.{is_accepted, is_no_room}
use Rattle.host_trace.specs.Projections.{children_of, shut_for_memory, stopped}
use Rattle.trace_model.specs.Answers.{answers}
use Rattle.trace_model.specs.Begins.{begins}
use Rattle.trace_model.specs.Continues.{continues_then as continues_by_rule}
use Rattle.trace_model.specs.Demands.{has_room, is_live, must_hear}
use Rattle.trace_model.specs.Exchange.{Exchange, all_of}
use Rattle.trace_model.specs.Exchanges.{has_ended}
use Rattle.trace_model.specs.Hops.{hops}
use Rattle.trace_model.specs.Legs.{Leg}
use Rattle.trace_model.specs.Replies.{is_silent_once_closed, replies}
use Rattle.trace_model.specs.Says.{says}
use Rattle.trace_model.specs.Shuts.{is_gone, why_due}
use Rattle.trace_model.specs.Standing.{stands_whole}
use Rattle.trace_model.specs.Streams.{begins_no_sooner, streams}
use Rattle.trace_model.specs.Talks.{talks, upgrades}
use Rattle.host_base.specs.declared.request.Request.{Request}
use Rattle.host_base.specs.declared.site.Mapped.{Mapped}
use Rattle.child_core.specs.Calls.{wants_text}
use Rattle.child_core.specs.View.{View as Run}
use Rattle.talk_core.specs.View.{View as Talk}
use Rattle.talk_laws.specs.TalkIs.{IsSpoken, TalkIs, TalkLostIs, TalkRests}
use Rattle.talk_laws.specs.Welcome.{IsGreeted}

-- ---- the rules on what is written, begun, answered, led on and streamed

-- No whole answer stands where the accept text does, so the exchange doesn't end.
pub record GoesOn (site : Site) (c : ℕ) (e : Exchange) : Type 0 where
  pub unfinished : stands_whole site c e ≡ false
  pub unended : has_ended site c e ≡ false

pub record KeepsHttpRules (site : Site) (c : ℕ) (e : Exchange) : Type 0 where
  pub replies_then : replies site c e ≡ true
  pub silent : is_silent_once_closed c e ≡ true
  pub begins_then : begins site c e ≡ true
  pub answers_then : answers site c e ≡ true
  pub hops_then : hops site c e ≡ true
  pub streams_then : streams site c e ≡ true
  pub no_sooner : begins_no_sooner site c e ≡ true
  pub continues_then : continues_by_rule site c e ≡ true
  pub upgrades_then : upgrades site c e ≡ true

abbrev pub GreetedGoOn : Type 0
GreetedGoOn = (site : Site) (c : ℕ) (e : Exchange) (continued : Bool) (value : List ℕ) (request : Request) (mapped : Mapped)
    → IsGreeted site c e continued value request mapped → GoesOn site c e

-- They hold while a WebSocket is spoken ..
abbrev pub SpokenKeepHttpRules : Type 0
SpokenKeepHttpRules = (site : Site) (c : ℕ) (e : Exchange) (legs : List Leg) (continued : Bool) (k : ℕ) → IsSpoken site c e legs continued k → KeepsHttpRules site c e

-- .. and where memory ran out before its program was started, for which the connection is shut.
pub record KeepsLostRules (site : Site) (c : ℕ) (e : Exchange) : Type 0 where
  pub http_rules : KeepsHttpRules site c e
  pub talks_then : talks site c e ≡ true
  pub says_then : says site c e ≡ true

abbrev pub LostGreetingsKeepRules : Type 0
LostGreetingsKeepRules = (site : Site) (c : ℕ) (e : Exchange) (continued : Bool) (value : List ℕ) (request : Request) (mapped : Mapped)
    → IsGreeted site c e continued value request mapped → children_of e.items c e.number 0 ≡ [] → is_live c (all_of e) ≡ false
    → shut_for_memory (all_of e) c ≡ true → KeepsLostRules site c e

-- ---- the rules on a talk

pub record KeepsTalkRules (site : Site) (c : ℕ) (e : Exchange) : Type 0 where
  pub talks_then : talks site c e ≡ true
  pub says_then : says site c e ≡ true

-- Where nothing is due, all that the talk names was said, fed and sent ..
abbrev pub RestsKeepTalks : Type 0
RestsKeepTalks = (site : Site) (c : ℕ) (e : Exchange) (legs : List Leg) (continued : Bool) (t : Talk) (v : Run) → TalkIs site c e legs continued t v
    → TalkRests c e t v → KeepsTalkRules site c e

-- .. and where memory ran out a front of it, and the connection is shut.
abbrev pub LossesKeepTalks : Type 0
LossesKeepTalks = (site : Site) (c : ℕ) (e : Exchange) (legs : List Leg) (continued early : Bool) (held : Run) → TalkLostIs site c e legs continued early held
    → is_live c (all_of e) ≡ false → shut_for_memory (all_of e) c ≡ true → KeepsTalkRules site c e

-- ---- when the client is asked, and why the connection is shut

-- the reason for a connection on whose WebSocket a talk goes on or is over
abbrev pub why_at : ℕ → List Item → Bool → Option Why
why_at c L over =
    if not (list_any is_accepted L) then None
    else (if stopped L then Some Stopped
    else (if is_gone c L then Some Gone
    else (if list_any (is_no_room c) L then Some NoMemory else (if over then Some Done else None))))

pub record TalkSaysDemands (site : Site) (c : ℕ) (e : Exchange) (t : Talk) (v : Run) : Type 0 where
  pub hears_then : must_hear site c e ≡ (is_live c (all_of e) && has_room c (all_of e) && wants_text v)
  pub why_then : why_due site c e ≡ why_at c (all_of e) t.over

abbrev pub TalksSayDemands : Type 0
TalksSayDemands = (site : Site) (c : ℕ) (e : Exchange) (legs : List Leg) (continued : Bool) (t : Talk) (v : Run) → TalkIs site c e legs continued t v
    → TalkSaysDemands site c e t v
